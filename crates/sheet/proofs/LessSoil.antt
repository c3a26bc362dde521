-- §10.3, for two value lines, of one sheet or of two, that differ in soil alone, apart from station and season: where the one with the
-- higher resistivity has verdict 1 in the table, the other has not verdict 2.
use Prim.Native.Nat.{ℕ, ◌<◌}
use mathlib.Core.{Path.{◌≡◌, sym, ◌∙◌}, List.{List}}
use lib.{IntN.{ℤ, pos}, ListN.{length}}
use Rattle.row.{specs.LessSoil.{LessSoil}, proofs.LessSoil.{drier_decides}}
use Rattle.sheet.specs.{declared.Answer.TheVariants.{Rows}, Answer.{cases}, Table.{Answered}}
use Rattle.sheet.proofs.Lines.{verdict_at, case_at, line_bounds, line_verdict, safe_number, unsafe_number}

pub drier_line_decides : {s t : List ℕ} {before after before' after' : List ℤ} {n m : ℕ} → Answered s before after (Rows n)
    → Answered t before' after' (Rows m) → (i j : ℕ) → i < length (cases s) → j < length (cases t) → LessSoil (case_at s i) (case_at t j)
    → verdict_at after i ≡ pos 1 → ¬ (verdict_at after' j ≡ pos 2)
drier_line_decides h k i j l m less e u =
    drier_decides (line_bounds h i l) (line_bounds k j m) less (safe_number _ (sym (line_verdict h i l) ∙ e))
    (unsafe_number _ (sym (line_verdict k j m) ∙ u))
