-- §10.2, for two value lines, of one sheet or of two: where one has verdict 1 in the table, the other, no worse and all else but station
-- and season equal, has verdict 1 in its table.
use Prim.Native.Nat.{ℕ, ◌<◌}
use mathlib.Core.{Path.{◌≡◌, sym, ◌∙◌}, List.{List}}
use lib.{IntN.{ℤ, pos}, ListN.{length}}
use Rattle.row.{specs.NoWorse.{NoWorse}, proofs.NoWorse.{no_worse_safe}}
use Rattle.sheet.specs.{declared.Answer.TheVariants.{Rows}, Answer.{cases}, Table.{Answered}}
use Rattle.sheet.proofs.Lines.{verdict_at, case_at, line_bounds, line_verdict, safe_number, number_safe}

pub no_worse_line_safe : {s t : List ℕ} {before after before' after' : List ℤ} {n m : ℕ} → Answered s before after (Rows n)
    → Answered t before' after' (Rows m) → (i j : ℕ) → i < length (cases s) → j < length (cases t) → NoWorse (case_at s i) (case_at t j)
    → verdict_at after i ≡ pos 1 → verdict_at after' j ≡ pos 1
no_worse_line_safe h k i j l m w e =
    let safe = safe_number _ (sym (line_verdict h i l) ∙ e) in
    line_verdict k j m ∙ number_safe _ (no_worse_safe (line_bounds h i l) (line_bounds k j m).shock.low w safe)
