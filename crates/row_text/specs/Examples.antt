-- Texts computed by hand: rows of the sample (§3.3) as each program prints them.
use Rattle.std.specs.Prelude.{ℕ}
use mathlib.Core.{Path.{◌≡◌, refl}, List.{[], ◌∷◌, map}}
use Rattle.std.specs.Prelude.{pos}
use Rattle.whole.specs.Whole.{ceil_div}
use Rattle.interval.specs.Operations.{natural}
use Rattle.text.specs.Text.{bytes}
use Rattle.writing.specs.{Decimal.{digits_in, digit_count, last_digits, decimal, signed}, Text.{more_fields, parted, ended, text_of}}
use Rattle.decision.specs.{declared.Verdict.{TheVariants.{Safe, Unsafe, Undecided}, Verdict}, Verdict.{verdict_number}}
use Rattle.row.specs.{declared.Row.{Row}, Row.{numbers}}
use Rattle.margin.specs.Margin.{margin, in_range, comparable, four_margins, margins_of}
use Rattle.fields.specs.Listed.{listed}
use Rattle.row_text.specs.{Verdict.{word, verdict_names, verdict_fields}, Rows.{row_names, row_fields}}
use Rattle.row_text.specs.Margins.{margin_names, two_margins, margin_fields}

-- a row of station 7 with a season, a verdict and the sample's size, 17 kcmil by §4.3; its ends are different numbers, so that no two
-- columns can be exchanged
abbrev pub sample_row : ℕ → Verdict → Row
sample_row season verdict =
    record {
      station = pos 7;
      season = pos season;
      verdict = verdict;
      size = pos 17;
      current = natural 5 6;
      factor = natural 7 8;
      tolerable_touch = natural 9 10;
      tolerable_step = natural 11 12;
      mesh = natural 13 14;
      step = natural 15 16;
      resistance = natural 17 18;
      rise = natural 19 20;
    }

sample : listed verdict_names (map verdict_fields (sample_row 1 Unsafe ∷ sample_row 2 Safe ∷ sample_row 3 Undecided ∷ []))
    ≡ bytes "station,season,verdict,kcmil\n7,1,unsafe,17\n7,2,safe,17\n7,3,undecided,17\n"
unfolding digits_in digit_count last_digits decimal signed more_fields parted ended text_of word verdict_names verdict_fields listed
sample = refl

sample_rows : listed row_names (map row_fields (sample_row 1 Unsafe ∷ []))
    ≡ bytes
    "station,season,verdict,size_kcmil,grid_current_lower_uA,grid_current_upper_uA,factor_lower_billionths,factor_upper_billionths,tolerable_touch_lower_mV,tolerable_touch_upper_mV,tolerable_step_lower_mV,tolerable_step_upper_mV,mesh_lower_mV,mesh_upper_mV,step_lower_mV,step_upper_mV,resistance_lower_uohm,resistance_upper_uohm,rise_lower_mV,rise_upper_mV\n7,1,2,17,5,6,7,8,9,10,11,12,13,14,15,16,17,18,19,20\n"
unfolding digits_in digit_count last_digits decimal signed more_fields parted ended text_of natural verdict_number numbers
    row_names row_fields listed
sample_rows = refl

-- 14 mV are 55.6 percent above 9 mV, and 16 mV are 45.5 percent above 11 mV
sample_margins : listed margin_names (map margin_fields (sample_row 1 Unsafe ∷ []))
    ≡ bytes "station,season,verdict,mesh_excess_per_mille,step_excess_per_mille\n7,1,unsafe,556,455\n"
unfolding digits_in digit_count last_digits decimal signed more_fields parted ended text_of natural verdict_number numbers word
    margin in_range comparable four_margins margins_of ceil_div two_margins margin_names margin_fields listed
sample_margins = refl
