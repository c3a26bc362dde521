-- What the checks of a staged test's numbers leave: how many there are, how large each is, and that a current is injected.
use Prim.Native.Nat.{ℕ, zero, suc, ◌-◌, ◌%◌, ◌^◌, ◌≤◌, ◌<◌}
use mathlib.Core.{Path.{◌≡◌, refl, sym, ◌∙◌}, Bool.{Bool, true, false, not, ◌||◌}, List.{List, [], ◌∷◌}}
use native.Mathlib.{Omega.{arith}}
use borrow.Author.Tests.{ltb-false, ne_eqb}
use lib.{Dec.{ltb, eqb}, IntN.{ℤ, pos, negsuc, nat_abs}, Signed.{mag}, ListN.{get_or}}
use mir.{Syntax.{w64}, Val.{of_z}}
use Rattle.staged.specs.Check.{fewest_numbers, most_numbers, bad_count, largest_part, outside, any_outside}

either_false : (a b : Bool) → a || b ≡ false → (a ≡ false) × (b ≡ false)
either_false true b h = (h, cc)
either_false false b h = (refl, h)

-- ---- the count

module _ (n : ℕ) (h : bad_count n ≡ false) where
  limits : (ltb n fewest_numbers ≡ false) × (ltb most_numbers n ≡ false)
  unfolding bad_count
  limits =
      let e = either_false (not (eqb (n % 2) 0) || ltb n fewest_numbers) (ltb most_numbers n) h in
      ((either_false (not (eqb (n % 2) 0)) (ltb n fewest_numbers) e.0).1, e.1)

  pub count_low : fewest_numbers ≤ n
  count_low = ltb-false n fewest_numbers limits.0

  pub count_high : n ≤ most_numbers
  count_high = ltb-false most_numbers n limits.1

-- ---- the range

pub inside : (z : ℤ) → outside z ≡ false → nat_abs z ≤ largest_part
unfolding outside largest_part
inside (pos n) h = ltb-false largest_part n h
inside (negsuc n) h = omega (arith, ltb-false _ n (either_false _ _ h).0)

pub parts_inside : (s : List ℤ) → any_outside s ≡ false → (i : ℕ) → nat_abs (get_or s i (pos 0)) ≤ largest_part
unfolding any_outside largest_part
parts_inside [] h i = omega arith
parts_inside (z ∷ s) h zero = inside z (either_false _ _ h).0
parts_inside (z ∷ s) h (suc i) = parts_inside s (either_false (outside z) (any_outside s) h).1 i

-- ---- the injected current

-- a signed number is 0 where its bits are
pub zero_bits : (z : ℤ) → mag z < 2 ^ 63 → eqb (of_z w64 z) 0 ≡ eqb (nat_abs z) 0
zero_bits (pos n) f = refl
zero_bits (negsuc n) f = ne_eqb (2 ^ 64 - suc n) 0 (λ e. omega (arith, f)) ∙ sym (ne_eqb (suc n) 0 (λ e. omega arith))
