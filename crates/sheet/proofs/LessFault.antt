-- §10.1, for two value lines, of one sheet or of two: where one has verdict 1 in the table, the other, with a lower fault current and all
-- else but station and season equal, has verdict 1 in its table, and so never 2.
use Prim.Native.Nat.{ℕ, ◌<◌}
use mathlib.Core.{Path.{◌≡◌}, List.{List}}
use lib.{IntN.{ℤ, pos}, ListN.{length}}
use Rattle.row.{specs.LessFault.{LessFault}, proofs.StaysSafe.{less_no_worse}}
use Rattle.sheet.specs.{declared.Answer.TheVariants.{Rows}, Answer.{cases}, Table.{Answered}}
use Rattle.sheet.proofs.{Lines.{verdict_at, case_at}, NoWorse.{no_worse_line_safe}}

pub line_stays_safe : {s t : List ℕ} {before after before' after' : List ℤ} {n m : ℕ} → Answered s before after (Rows n)
    → Answered t before' after' (Rows m) → (i j : ℕ) → i < length (cases s) → j < length (cases t) → LessFault (case_at s i) (case_at t j)
    → verdict_at after i ≡ pos 1 → verdict_at after' j ≡ pos 1
line_stays_safe h k i j l m less e = no_worse_line_safe h k i j l m (less_no_worse less) e
