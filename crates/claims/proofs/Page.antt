-- Every field of the page of claims, from laws of this crate and of the crates below.
use Rattle.formulas.proofs.{Yards.{starred}, MeshArgument.{G_forms}}
use Rattle.hocsimbur.proofs.{LessFault.{row_stays_safe}, LessSoil.{drier_row_decides}}
use Rattle.claims.specs.Claims.{Claims}
use Rattle.claims.proofs.{Sheets.{bounds_at, demands}, LessCurrent.{less_current, line_less_current, row_margins}}
use Rattle.claims.proofs.{RulesKept.{rules_kept, sample_sheet}, RulesEnough.{breaks_none, breaks_first, empty_line}}
use Rattle.claims.proofs.{OnePlace.{one_place}, FirstBroken.{known, first_broken, none_broken, refused_by, accepted_by}}
use Rattle.claims.proofs.{EarlierLimits.{stored_sheet, above_earlier}, Squares.{square}, SampleVerdicts.{sample_verdicts}}
use Rattle.claims.proofs.{Printed.{verdict_outcome}, Numbers.{one_number}, Workings.{working_outcome}, Releases.{release}}
use Rattle.claims.proofs.{Readings.{soil_outcome}, StagedTests.{split_outcome}, Alone.{asked_alone}}
use Rattle.claims.proofs.Yards.{fewest_outcome, yard_unread}
use Rattle.claims.proofs.{Bytes.{in_bytes, pointed}, Carrying.{carry_outcome, there_and_back, ms_refused}, SummaryAnswers.{summary}}
use Rattle.claims.proofs.{Entries.{summary_in_c, release_in_c, carry_in_c}, EntryReports.{soil_in_c, split_in_c, fewest_in_c}}
use Rattle.claims.proofs.EntryLines.{margins_in_c, working_in_c, headroom_in_c}
use Rattle.claims.proofs.OneAnswers.{one_answers}
use Rattle.claims.proofs.Later as later
use Rattle.claims.proofs.Records as records
use Rattle.claims.proofs.PlainNumbers as plain

pub page : Claims
page =
    record {
      demands = demands;
      rules = rules_kept;
      rules_enough = breaks_none;
      first_broken = breaks_first;
      one_refusal = one_place;
      empty_line = empty_line;
      sample = sample_sheet;
      sample_verdicts = sample_verdicts;
      verdict_printed = verdict_outcome;
      starred = starred;
      one_number = one_number;
      one_answer = one_answers;
      row = records.row_outcome;
      factor = records.factor_outcome;
      size = records.size_outcome;
      touch_and_step_lem = records.tolerable_outcome;
      grid_resistance_lem = records.resistance_outcome;
      asked_alone = asked_alone;
      logarithm = plain.logarithm;
      ms_refused = ms_refused;
      mesh_argument = G_forms;
      square = square;
      form_kept = λ form {s}. (none_broken _ (known form) s, accepted_by _ (known form) s);
      form_broken = λ form {s}. (first_broken _ (known form) s, refused_by _ (known form) s);
      carry = carry_outcome;
      there_and_back = λ h b. there_and_back h b;
      soil = soil_outcome;
      stored_sheets = stored_sheet;
      above_earlier = above_earlier;
      in_bytes = in_bytes;
      pointed = pointed;
      fewest = fewest_outcome;
      yard_unread = yard_unread;
      staged_test = split_outcome;
      split_refused = λ s b i l. (bounds_at s b i l).split;
      summary = summary;
      less_current = less_current;
      stays_safe = row_stays_safe;
      line_less_current = line_less_current;
      working = working_outcome;
      release = release;
      headroom = later.headroom_outcome;
      no_worse = later.no_worse;
      line_no_worse = later.line_no_worse;
      drier_soil = drier_row_decides;
      line_drier_soil = later.line_drier_soil;
      margins = plain.row_margins;
      row_margins = row_margins;
      summary_in_c = summary_in_c;
      release_in_c = release_in_c;
      carry_in_c = carry_in_c;
      soil_in_c = soil_in_c;
      split_in_c = split_in_c;
      fewest_in_c = fewest_in_c;
      margins_in_c = margins_in_c;
      working_in_c = working_in_c;
      headroom_in_c = headroom_in_c;
    }
