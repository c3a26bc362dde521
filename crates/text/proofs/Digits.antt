-- The reading of digits: what holds while those before index i are read as n.
use Rattle.std.proofs.Common.{Some, None, ℕ, ◌+◌, ◌-◌, ◌*◌, ◌^◌, ◌<◌, ◌≤◌}
use mathlib.Core.{Path.{◌≡◌, refl, ◌∙◌}, Bool.{Bool, true, false, ◌&&◌}, List.{List}}
use native.Mathlib.{Numerals.{add-one}, Nat.{pow-suc, pow-le-pow_right}, Omega.{arith}}
use lib.{ListN.{length, get_or, drop, drop_of_length-le}, Seq.{drop-cons}, Dec.{leb}}
use borrow.Author.Tests.{leb-true}
use Rattle.text.proofs.Clash.{clash}
use Rattle.text.specs.{Value.{digit, digits, number_from, value_of}, Parts.{digits_value}}

digit_most : (b : ℕ) → digit b ≡ true → b ≤ 57
unfolding digit
digit_most b e = go (leb 48 b) (leb b 57) refl e
  where
    go : (p q : Bool) → leb b 57 ≡ q → p && q ≡ true → b ≤ 57
    go true true h e = leb-true b 57 h
    go true false h e = clash cc
    go false q h e = clash cc

pub record Reading (s : List ℕ) (n i : ℕ) : Type 0 where
  pub within : i ≤ length s
  pub small : n < 10 ^ i
  pub digits_left : digits s ≡ digits (drop i s)
  pub number_left : number_from 0 s ≡ number_from n (drop i s)

pub reading_start : (s : List ℕ) → Reading s 0 0
reading_start s = record { within = omega arith; small = omega arith; digits_left = refl; number_left = refl }

module _ {s : List ℕ} {n i : ℕ} (a : Reading s n i) where
  -- five digits and one more fit
  pub reading_fits : length s ≤ 6 → i < length s → n ≤ 99999
  reading_fits h k =
      let five : i ≤ 5 = omega arith in
      omega (arith, pow-le-pow_right {n = 10} (omega arith) five)

  pub reading_other : i < length s → digit (get_or s i 0) ≡ false → None ≡ digits_value s
  unfolding digits_value digits
  reading_other h e = rw (a.digits_left, drop-cons s i 0 h, e)

  pub reading_step : i < length s → digit (get_or s i 0) ≡ true → Reading s (n * 10 + (get_or s i 0 - 48)) (i + 1)
  unfolding digits number_from
  reading_step h e =
      record {
        within = omega arith;
        small = rw (add-one, pow-suc 10 i) (omega (arith, a.small, digit_most (get_or s i 0) e));
        digits_left = a.digits_left ∙ rw (drop-cons s i 0 h, e, add-one);
        number_left = a.number_left ∙ rw (drop-cons s i 0 h, add-one);
      }

  pub reading_end : length s ≤ i → Some n ≡ digits_value s
  unfolding digits_value digits value_of number_from
  reading_end h = rw (a.digits_left, a.number_left, drop_of_length-le s h)
