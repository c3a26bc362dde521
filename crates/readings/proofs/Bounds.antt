-- How large a·R, its least, its greatest and its sum are, where no pair is out of range.
use Prim.Native.Nat.{ℕ, zero, suc, ◌*◌, ◌%◌, ◌≤◌}
use mathlib.Core.{Path.{◌≡◌}, Bool.{Bool, true, false, cond, and-eq-true_iff}, List.{List, [], ◌∷◌}}
use native.Mathlib.{Omega.{arith}, Nat.{mul-le-mul}}
use borrow.Author.Tests.{leb-true, eqb-true}
use lib.{Dec.{leb}, ListN.{length, drop}}
use Rattle.readings.specs.{declared.outside.Range.{Range}, Reading.{Reading, pairs_of}}
use Rattle.readings.specs.{Limits.{most_numbers, distances, resistances, in_range}, Taken.{most_product, product, Bounded, Taken}}
use Rattle.readings.specs.{Refusal.{sound_count, number_in, first_outside}, Ends.{with_product, products_of}}
use Rattle.std.specs.Prelude.{Some, None}
use Rattle.readings.proofs.Pairs.{pair_count}

-- ---- a number that is not out of range

high : (range : Range) (n : ℕ) → in_range range n ≡ true → n ≤ range.high
unfolding in_range
high range n h = leb-true n range.high ((and-eq-true_iff (leb range.low n) (leb n range.high)).0 h).1

-- of the first pair, and of the others
first_inside : (range : Range) (column place : ℕ) (p : Reading) (ps : List Reading) → first_outside range column place (p ∷ ps) ≡ None
    → (in_range range (number_in column p) ≡ true) × (first_outside range column (suc place) ps ≡ None)
unfolding first_outside
first_inside range column place p ps h = go (in_range range (number_in column p)) h
  where
    go : (b : Bool) → cond b (first_outside range column (suc place) ps) (Some place) ≡ None
        → (b ≡ true) × (first_outside range column (suc place) ps ≡ None)
    go true h = (cc, h)
    go false h = let z : ◌≡◌ {A = ℕ} 0 1 = cc in absurd (omega arith)

bounded : (place : ℕ) (ps : List Reading) → first_outside distances 1 place ps ≡ None → first_outside resistances 2 place ps ≡ None
    → Bounded ps
unfolding Bounded product number_in
bounded place [] h k = tt
bounded place (p ∷ ps) h k =
    let d = first_inside distances 1 place p ps h in
    let r = first_inside resistances 2 place p ps k in
    (mul-le-mul (high distances p.distance d.0) (high resistances p.resistance r.0), bounded (suc place) ps d.1 r.1)

-- a list that is not refused
pub all_taken : (s : List ℕ) → sound_count (length s) ≡ true → first_outside distances 1 1 (pairs_of s) ≡ None
    → first_outside resistances 2 1 (pairs_of s) ≡ None → Taken s
unfolding sound_count
all_taken s n h k =
    let c = (and-eq-true_iff _ _).0 n in
    let d = (and-eq-true_iff _ _).0 c.1 in
    let low = leb-true 1 (length s) c.0 in
    let even = eqb-true (length s % 2) 0 d.0 in
    let few = leb-true (length s) most_numbers d.1 in
    record { some = omega (arith, pair_count s); few = omega (arith, pair_count s); bounded = bounded 1 (pairs_of s) h k }

pub bounded_drop : (k : ℕ) (ps : List Reading) → Bounded ps → Bounded (drop k ps)
unfolding Bounded
bounded_drop zero ps b = b
bounded_drop (suc k) [] b = tt
bounded_drop (suc k) (p ∷ ps) b = bounded_drop k ps b.1

-- ---- least, greatest and sum

pub least_bound : (ps : List Reading) → 1 ≤ length ps → Bounded ps → (products_of ps).least ≤ most_product
unfolding products_of with_product Bounded
least_bound [] h b = absurd (omega arith)
least_bound (p ∷ ps) h b = omega (arith, b.0)

pub greatest_bound : (ps : List Reading) → Bounded ps → (products_of ps).greatest ≤ most_product
unfolding products_of with_product Bounded
greatest_bound [] b = omega arith
greatest_bound (p ∷ ps) b = omega (arith, greatest_bound ps b.1, b.0)

pub total_bound : (ps : List Reading) → Bounded ps → (products_of ps).total ≤ length ps * most_product
unfolding products_of with_product Bounded
total_bound [] b = omega arith
total_bound (p ∷ ps) b = omega (arith, total_bound ps b.1, b.0)
