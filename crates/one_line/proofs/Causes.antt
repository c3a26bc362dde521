-- Every judgement of a sheet of one value line has its cause: the test that decided it.
use Prim.Native.Nat.{ℕ, ◌<◌}
use mathlib.Core.{Path.{◌≡◌, refl}, Bool.{Bool, true, false, cond}, List.{List, []}}
use native.Mathlib.Omega.{arith}
use lib.{Dec.{eqb, ltb}, ListN.{length, get_or}}
use borrow.Author.Tests.{eqb-true, eqb-false, ltb-true, ltb-false}
use Rattle.text.specs.Text.{fields_of}
use Rattle.case.specs.Columns.{columns, name_count}
use Rattle.line.specs.Line.{wrong_form}
use Rattle.line_finding.specs.declared.LineFinding.TheVariants.{Sound, Form}
use Rattle.judgement.specs.{Limits.{today}, Sheet.{value_lines, bad_text}}
use Rattle.judgement.specs.Refusal.{text_refused, name_refused, no_line_refused, many_lines_refused, line_judgement}
use Rattle.judgement.proofs.Causes.{wrong_column}
use Rattle.one_line.specs.Sheet.{fields_judged, values_judged, names_judged, sheet_judged}
use Rattle.std.specs.Prelude.{Result, Ok}
use Rattle.refusal.specs.{declared.Refused.{Refused}, Refused.{refuse}}

module _ (s : List ℕ) where
  -- the leftmost wrong column of the value line, or 0
  abbrev pub wrong_value : ℕ
  wrong_value = wrong_form name_count 1 (fields_of (get_or (value_lines s) 0 []))

  -- 1, 2, 4 and 3, in this order
  pub data Cause : Result (Unit {0}) Refused → Type 0 where
    text : bad_text today s ≡ true → Cause (refuse 1 0 0)
    name : bad_text today s ≡ false → (wrong_column columns s ≡ 0 → ⊥) → Cause (refuse 2 1 (wrong_column columns s))
    no_line : bad_text today s ≡ false → wrong_column columns s ≡ 0 → length (value_lines s) ≡ 0 → Cause (refuse 4 2 0)
    more_lines : bad_text today s ≡ false → wrong_column columns s ≡ 0 → 1 < length (value_lines s) → Cause (refuse 4 3 0)
    value : bad_text today s ≡ false → wrong_column columns s ≡ 0 → length (value_lines s) ≡ 1 → (wrong_value ≡ 0 → ⊥)
        → Cause (refuse 3 2 wrong_value)
    right : bad_text today s ≡ false → wrong_column columns s ≡ 0 → length (value_lines s) ≡ 1 → wrong_value ≡ 0 → Cause (Ok tt)

  pub cause : Cause (sheet_judged s)
  unfolding sheet_judged names_judged values_judged fields_judged text_refused name_refused no_line_refused many_lines_refused line_judgement
  cause =
      by_tests (bad_text today s) refl (eqb (wrong_column columns s) 0) refl (eqb (length (value_lines s)) 0) refl
      (ltb 1 (length (value_lines s))) refl (eqb wrong_value 0) refl
    where
      by_tests : (a : Bool) → bad_text today s ≡ a → (b : Bool) → eqb (wrong_column columns s) 0 ≡ b
          → (c : Bool) → eqb (length (value_lines s)) 0 ≡ c → (d : Bool) → ltb 1 (length (value_lines s)) ≡ d
          → (e : Bool) → eqb wrong_value 0 ≡ e
          → Cause
          (cond a (refuse 1 0 0)
          (cond b
          (cond c (refuse 4 2 0) (cond d (refuse 4 3 0) (line_judgement 2 (Ok tt) (cond e Sound (Form wrong_value)))))
          (refuse 2 1 (wrong_column columns s))))
      by_tests true p b q c r d t e u = text p
      by_tests false p false q c r d t e u = name p (eqb-false _ 0 q)
      by_tests false p true q true r d t e u = no_line p (eqb-true _ 0 q) (eqb-true _ 0 r)
      by_tests false p true q false r true t e u = more_lines p (eqb-true _ 0 q) (ltb-true _ _ t)
      by_tests false p true q false r false t true u =
          right p (eqb-true _ 0 q) (omega (arith, eqb-false (length (value_lines s)) 0 r, ltb-false 1 (length (value_lines s)) t))
          (eqb-true _ 0 u)
      by_tests false p true q false r false t false u =
          value p (eqb-true _ 0 q) (omega (arith, eqb-false (length (value_lines s)) 0 r, ltb-false 1 (length (value_lines s)) t))
          (eqb-false _ 0 u)
