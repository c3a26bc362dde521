-- `put_place` writes the first two numbers.
use Prim.Native.Nat.{ℕ, ◌≤◌, ◌<◌}
use mathlib.Core.{Path.{◌≡◌}, List.{List, [], ◌∷◌}}
use native.Mathlib.Omega.{arith}
use lib.ListN.{length, set}
use Rattle.c_tell.specs.Place.{place_after}
use Rattle.c_tell.proofs.put_place.Goals as goal
use Rattle.std.specs.Prelude.{Result, Ok}
use Rattle.refusal.specs.{declared.Refused.{Refused}, Refused.{refuse}}

-- of a refusal, by the length of the place
written : {a : Result ℕ Refused} {n l k : ℕ} (p : List ℕ) → a ≡ refuse n l k → 2 ≤ length p → set (set p 0 l) 1 k ≡ place_after a p
unfolding place_after
written [] e h = absurd (omega arith)
written (x ∷ []) e h = absurd (omega arith)
written (x ∷ y ∷ p) e h = rw e

kept : {a : Result ℕ Refused} {n l k : ℕ} (p : List ℕ) → a ≡ refuse n l k → length p < 2 → p ≡ place_after a p
unfolding place_after
kept [] e h = rw e
kept (x ∷ []) e h = rw e
kept (x ∷ y ∷ p) e h = absurd (omega arith)

rows_kept : {a : Result ℕ Refused} {n : ℕ} (p : List ℕ) → a ≡ Ok n → p ≡ place_after a p
unfolding place_after
rows_kept p e = rw e

pub returns-in-Ok : goal.returns-in-Ok
returns-in-Ok c = rows_kept c.args.place.now c.in-Ok.is

pub returns-then-place-ge2 : goal.returns-then-place-ge2
returns-then-place-ge2 c = written c.args.place.now c.in-Err.is c.if-place-ge2.true

pub returns-else-place-ge2 : goal.returns-else-place-ge2
returns-else-place-ge2 c = kept c.args.place.now c.in-Err.is c.if-place-ge2.false
