-- The whole part of a square root is the only number with its two properties.
use Prim.Native.Nat.{ℕ, ◌+◌, ◌*◌, ◌≤◌, ◌<◌}
use mathlib.Core.Path.{◌≡◌, refl}
use native.Mathlib.{Omega.{arith}, Nat.{mul-le-mul}, Decide.{dec_lt}}
use Rattle.interval.specs.{declared.Interval.{Interval}, Root.{IsRoot, RootEnds}}
use Rattle.exact.proofs.Greatest.{greatest_holds, greatest_next}
use Rattle.enclosure.specs.SquareRoot.{square_root, root_pair}

pub square_root_lem : (x : ℕ) → IsRoot x (square_root x)
unfolding square_root
square_root_lem x =
    record { low = greatest_holds (λ r. r * r) x x (omega arith); high = omega (arith, greatest_next (λ r. r * r) x x (omega arith)) }

-- two roots of one number
root_unique : {x r s : ℕ} → IsRoot x r → IsRoot x s → r ≡ s
root_unique {x} {r} {s} h k = go (dec_lt r s) (dec_lt s r)
  where
    less : {a b : ℕ} → IsRoot x a → IsRoot x b → a < b → ⊥
    less {a} {b} p q l =
        let m : a + 1 ≤ b = omega arith in
        omega (arith, p.high, q.low, mul-le-mul m m)

    go : Dec (r < s) → Dec (s < r) → r ≡ s
    go (yes l) d = absurd (less h k l)
    go (no l) (yes m) = absurd (less k h m)
    go (no l) (no m) = omega arith

pub square_root_is : {x r : ℕ} → IsRoot x r → square_root x ≡ r
square_root_is {x} h = root_unique (square_root_lem x) h

pub root_pair_lem : {x : ℕ} {a : Interval} → RootEnds x a → a ≡ root_pair x
unfolding root_pair
root_pair_lem r = rw (r.ends, square_root_is r.is_root_lem)

pub pair_ends : (x : ℕ) → RootEnds x (root_pair x)
unfolding root_pair
pair_ends x = record { root = square_root x; is_root_lem = square_root_lem x; ends = refl }
