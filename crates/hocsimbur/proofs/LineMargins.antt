-- The margins of every row of an accepted sheet are right.
use Prim.Native.Nat.{ℕ, ◌<◌}
use mathlib.Core.List.{List}
use lib.{IntN.{ℤ}, ListN.{length}}
use Rattle.sheet.specs.{declared.Answer.TheVariants.{Rows}, Answer.{cases}, Table.{row_at, Answered}}
use Rattle.sheet.proofs.Lines.{case_at, line_bounds, filled}
use Rattle.margin.{specs.{Margin.{margins_of}, Meaning.{Right}}, proofs.Right.{right_margins}}

pub line_margins : {s : List ℕ} {before after : List ℤ} {n : ℕ} → Answered s before after (Rows n) → (i : ℕ) → i < length (cases s)
    → Right (case_at s i) (margins_of (row_at after i))
line_margins h i l = rw ((filled h i l).parts i l).is (right_margins (line_bounds h i l))
