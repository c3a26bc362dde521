-- §11.3: soil, split and fewest lines reported to a program in C: the numbers of a report in an array.
use Prim.Native.Nat.{ℕ, ◌≤◌, ◌<◌}
use mathlib.Core.{Path.{◌≡◌, refl}, Bool.{Bool, true, false, cond}, List.{List, ◌++◌}}
use native.Mathlib.Omega.{arith}
use lib.{Dec.{ltb}, IntN.{ℤ}, ListN.{length, drop}}
use borrow.Author.Tests.{ltb-true, ltb-false}
use Rattle.staged.specs.Answer as staged
use Rattle.case.specs.{declared.Case.{Case}, Columns.{columns}}
use Rattle.header.{specs.Names.{WrongName, None}, proofs.NamesStand.{names_stand, no_wrong_name, wrong_name_lem}}
use Rattle.line.specs.Line.{line_case}
use Rattle.judgement.specs.{Limits.{today}, Sheet.{names, value_lines, bad_text}}
use Rattle.judgement.proofs.{Whole.{text_wrong}, ValueFields.{right_values, wrong_values}, Causes.{wrong_column}}
use Rattle.yards.specs.{Fewest.{FewestAnswered}}
use Rattle.one_line.specs.{Sheet.{case_in}, Answer.{answer_by, sheet_answer}}
use Rattle.one_line.proofs.Causes.{Cause, wrong_value}
use Rattle.one_line.proofs.Causes as cause
use Rattle.c_tell.specs.Told.{Told}
use Rattle.c_reply.specs.Reply.{Reply, Numbers, Refused, reply_answer, numbers_after, Replied, soil_reply, split_reply, fewest_reply}
use Rattle.c_questions.specs.Reports.{SoilTold, SplitTold, FewestTold}
use Rattle.claims.specs.Rules.{fields_at}
use Rattle.claims.specs.Record as record-checks
use Rattle.claims.specs.Measured as measured
use Rattle.claims.specs.Yards as yard
use Rattle.claims.specs.Entries as entries
use Rattle.claims.proofs.{Readings.{soil_outcome}, StagedTests.{split_outcome}, Yards.{fewest_outcome}}
use Rattle.claims.proofs.{FirstBroken.{text_kept}, OwnLines.{case_is, own_line}}
use Rattle.claims.proofs.Entries.{Says, in_c}
use Rattle.std.specs.Prelude.{Result, Ok, Err}
use Rattle.refusal.specs.{declared.Refused.{Refused as Refusal}, Refused.{refuse}}
use Rattle.readings.specs.declared.Report.{Report}
use Rattle.staged.specs.declared.GridShare.{GridShare}
use Rattle.yards.specs.declared.FewestLines.{FewestLines}
use Rattle.yards.specs.declared.FewestLines.TheVariants as fewest_lines

-- ---- any report

-- what a reply says
unfoldable ReplySays : (ℕ → List ℤ → Type 0) → (ℕ → ℕ → ℕ → Type 0) → Reply → Type 0
ReplySays Report Own (Numbers count zs) = Report count zs
ReplySays Report Own (Refused number line column) = (1 ≤ number) × Own number line column

module _ (Report : ℕ → List ℤ → Type 0) (Own : ℕ → ℕ → ℕ → Type 0) where
  answer_says : {after : List ℤ} (before : List ℤ) (reply : Reply) → after ≡ numbers_after before reply → ReplySays Report Own reply
      → Says (entries.Reported Report before after) (entries.ReportRefused Report before after Own) (reply_answer (length before) reply)
  unfolding Says ReplySays reply_answer numbers_after
  answer_says before (Refused number line column) e h = (h.0, entries.own h.1 e)
  answer_says {after} before (Numbers count zs) e h = go (ltb (length before) (length zs)) refl e
    where
      go : (b : Bool) → ltb (length before) (length zs) ≡ b → after ≡ cond b before (zs ++ drop (length zs) before)
          → Says (entries.Reported Report before after) (entries.ReportRefused Report before after Own)
          (cond b (refuse 8 0 0) (Ok count))
      go true q e = (omega arith, entries.short h (ltb-true (length before) (length zs) q) e)
      go false q e = entries.reported h (ltb-false (length before) (length zs) q) e

  report_in_c : {before after : List ℤ} {place told : List ℕ} {r : ℤ} {a : Result ℕ Refusal} (reply : Reply) → Replied reply before after a
      → Told a place told r → ReplySays Report Own reply → entries.ReportInC Report Own before after place told r
  report_in_c {before} {a = a} reply p t h = in_c a t (rw p.answer_is (answer_says before reply p.numbers_are h))

-- ---- soil and split

soil_number : {list : List ℕ} {number line column : ℕ} → measured.SoilOutcome list (refuse number line column) → 1 ≤ number
soil_number (measured.count w) = omega arith
soil_number (measured.distance w f) = omega arith
soil_number (measured.resistance w d f) = omega arith

pub soil_in_c : {list : List ℕ} {before after : List ℤ} {place told : List ℕ} {r : ℤ} → SoilTold list before after place told r
    → entries.SoilInC list before after place told r
unfolding ReplySays soil_reply
soil_in_c {list} t = report_in_c _ _ (soil_reply t.answer) t.numbers t.told (says t.answer (soil_outcome t.asked))
  where
    says : (a : Result Report Refusal) → measured.SoilOutcome list a
        → ReplySays (entries.SoilNumbers list) (λ number line column. measured.SoilOutcome list (refuse number line column))
        (soil_reply a)
    says (Ok report) o = entries.soil o
    says (Err why) o = (soil_number o, o)

split_number : {s : List ℤ} {number line column : ℕ} → measured.SplitOutcome s (refuse number line column) → 1 ≤ number
split_number (measured.count w) = omega arith
split_number (measured.part i w l p) = omega arith
split_number (measured.none w a n) = omega arith

pub split_in_c : {s before after : List ℤ} {place told : List ℕ} {r : ℤ} → SplitTold s before after place told r
    → entries.SplitInC s before after place told r
unfolding ReplySays split_reply
split_in_c {s} t = report_in_c _ _ (split_reply (staged.answer s)) t.numbers t.told (says (staged.answer s) (split_outcome refl))
  where
    says : (a : Result GridShare Refusal) → measured.SplitOutcome s a
        → ReplySays (entries.SplitNumbers s) (λ number line column. measured.SplitOutcome s (refuse number line column))
        (split_reply a)
    says (Ok g) o = entries.grid o
    says (Err why) o = (split_number o, o)

-- ---- fewest lines

record_number : {c : Case} {number line column : ℕ} → record-checks.RecordRefused c number line column → 1 ≤ number
record_number (record-checks.out_of_range f) = omega arith
record_number (record-checks.surface a n) = omega arith
record_number (record-checks.rods a s n) = omega arith

fewest_number : {c : Case} {side number line column : ℕ} → yard.FewestOutcome c side (refuse number line column) → 1 ≤ number
fewest_number (yard.checks y s r) = record_number r
fewest_number (yard.side_outside a b) = omega arith
fewest_number (yard.no_rod a b e) = omega arith

module _ (s : List ℕ) (side : ℕ) where
  -- the names of the sheet, and its one value line
  names_kept : wrong_column columns s ≡ 0 → None (WrongName columns (names s))
  names_kept w = no_wrong_name (names_stand columns (names s) w)

  line_read : bad_text today s ≡ false → wrong_column columns s ≡ 0 → length (value_lines s) ≡ 1 → wrong_value s ≡ 0
      → entries.OneLineRead s (case_in s)
  unfolding case_in line_case
  line_read b w one v =
      let h : 0 < length (value_lines s) = omega arith in
      record {
        text = text_kept s b;
        name = names_kept w;
        one = one;
        own_line = rw (case_is s 0 h) at (own_line s 0 h w (right_values 22 (fields_at s 0) v));
      }

  -- the answer to the case
  search_says : entries.OneLineRead s (case_in s) → (a : Result FewestLines Refusal) → yard.FewestOutcome (case_in s) side a
      → ReplySays (entries.FewestNumbers s side) (entries.FewestRefused s side) (fewest_reply a)
  unfolding ReplySays fewest_reply
  search_says l (Ok (fewest_lines.Found lines rods tried)) o = entries.found l o
  search_says l (Ok (fewest_lines.None tried)) o = entries.none l o
  search_says l (Err why) o = (fewest_number o, entries.search l o)

  -- the answer by what was judged of the sheet
  sheet_says : {j : Result (Unit {0}) Refusal} → Cause s j → (a : Result FewestLines Refusal) → a ≡ answer_by (case_in s) side j
      → (j ≡ Ok tt → FewestAnswered (case_in s) side a)
      → ReplySays (entries.FewestNumbers s side) (entries.FewestRefused s side) (fewest_reply a)
  unfolding answer_by ReplySays fewest_reply
  sheet_says (cause.text b) a e h = rw e (omega arith, entries.text (text_wrong today s b))
  sheet_says (cause.name b w) a e h = rw e (omega arith, entries.name (text_kept s b) (wrong_name_lem columns (names s) w))
  sheet_says (cause.no_line b w z) a e h = rw e (omega arith, entries.count (text_kept s b) (names_kept w) (entries.none z))
  sheet_says (cause.more_lines b w m) a e h = rw e (omega arith, entries.count (text_kept s b) (names_kept w) (entries.more m))
  sheet_says (cause.value b w one v) a e h =
      rw e (omega arith, entries.value (text_kept s b) (names_kept w) one (wrong_values 22 (fields_at s 0) v))
  sheet_says (cause.right b w one v) a e h = search_says (line_read b w one v) a (fewest_outcome (h refl))

pub fewest_in_c : {s : List ℕ} {side : ℕ} {before after : List ℤ} {place told : List ℕ} {r : ℤ}
    → FewestTold s side before after place told r → entries.FewestInC s side before after place told r
unfolding sheet_answer
fewest_in_c {s} {side} t =
    report_in_c _ _ (fewest_reply t.answer) t.numbers t.told
    (sheet_says s side (cause.cause s) t.answer t.asked.answer_is t.asked.searched)
