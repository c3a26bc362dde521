-- Every judgement has its cause: the test that decided it.
use Prim.Native.Nat.{ℕ, ◌+◌, ◌≤◌, ◌<◌}
use mathlib.Core.{Path.{◌≡◌, refl}, Bool.{Bool, true, false, cond}, List.{List, []}}
use lib.{ListN.{length}, Dec.{ltb, eqb}}
use borrow.Author.Tests.{eqb-true, eqb-false, ltb-true, ltb-false}
use Rattle.case.specs.Columns.{Form}
use Rattle.header.specs.Header.{no_columns, wrong_name, columns_of}
use Rattle.judgement.specs.Limits.{Limits}
use Rattle.judgement.specs.Refusal.{text_refused, name_refused, no_line_refused, many_lines_refused}
use Rattle.judgement.specs.Sheet.{names, value_lines, bad_text, lines_judgement, values_judgement, names_judgement, judgement_within}
use Rattle.std.specs.Prelude.{Result, Ok}
use Rattle.refusal.specs.{declared.Refused.{Refused}, Refused.{refuse}}

module _ (form : Form) (s : List ℕ) where
  -- the leftmost wrong column of the first line, or 0
  abbrev pub wrong_column : ℕ
  wrong_column = wrong_name form 1 (no_columns form) (names s)

  -- what the value lines are judged, line by line
  abbrev pub lines_judged : Result ℕ Refused
  lines_judged = lines_judgement form (columns_of form (names s)) [] 2 (Ok (length (value_lines s))) (value_lines s)

  -- "The order is 1, 2, 4; then line by line"
  pub data Cause (limits : Limits) : Result ℕ Refused → Type 0 where
    text : bad_text limits s ≡ true → Cause limits (refuse 1 0 0)
    name : bad_text limits s ≡ false → (wrong_column ≡ 0 → ⊥) → Cause limits (refuse 2 1 wrong_column)
    no_line : bad_text limits s ≡ false → wrong_column ≡ 0 → length (value_lines s) ≡ 0 → Cause limits (refuse 4 2 0)
    many_lines : bad_text limits s ≡ false → wrong_column ≡ 0 → limits.lines < length (value_lines s)
        → Cause limits (refuse 4 (limits.lines + 2) 0)
    lines : {j : Result ℕ Refused} → bad_text limits s ≡ false → wrong_column ≡ 0 → (length (value_lines s) ≡ 0 → ⊥)
        → length (value_lines s) ≤ limits.lines → lines_judged ≡ j → Cause limits j

  pub cause : (limits : Limits) → Cause limits (judgement_within form limits s)
  unfolding judgement_within names_judgement values_judgement text_refused name_refused no_line_refused many_lines_refused
  cause limits =
      by_tests (bad_text limits s) refl (eqb wrong_column 0) refl (eqb (length (value_lines s)) 0) refl
      (ltb limits.lines (length (value_lines s))) refl
    where
      by_tests : (a : Bool) → bad_text limits s ≡ a → (b : Bool) → eqb wrong_column 0 ≡ b → (c : Bool) → eqb (length (value_lines s)) 0 ≡ c
          → (d : Bool) → ltb limits.lines (length (value_lines s)) ≡ d
          → Cause limits
          (cond a (refuse 1 0 0)
          (cond b (cond c (refuse 4 2 0) (cond d (refuse 4 (limits.lines + 2) 0) lines_judged)) (refuse 2 1 wrong_column)))
      by_tests true p b q c r d t = text p
      by_tests false p false q c r d t = name p (eqb-false wrong_column 0 q)
      by_tests false p true q true r d t = no_line p (eqb-true wrong_column 0 q) (eqb-true _ 0 r)
      by_tests false p true q false r true t = many_lines p (eqb-true wrong_column 0 q) (ltb-true _ _ t)
      by_tests false p true q false r false t = lines p (eqb-true wrong_column 0 q) (eqb-false _ 0 r) (ltb-false _ _ t) refl
