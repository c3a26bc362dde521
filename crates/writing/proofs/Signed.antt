-- Numbers with a sign: their digits, and the bits of the code's numbers as their magnitude.
use Prim.Native.Nat.{ℕ, zero, suc, ◌+◌, ◌-◌, ◌/◌, ◌≤◌}
use mathlib.Core.{Path.{◌≡◌, refl, ◌∙◌}, Bool.{Bool, true, false, cond}, List.{◌∷◌}}
use native.Mathlib.{Numerals.{add-one}, Omega.{arith}}
use lib.{Dec.{ltb, leb-suc-zero}, IntN.{ℤ, pos, negsuc, nat_abs}, ListN.{length}, Signed.{mag, lt_z}}
use mir.{Syntax.{w64}, Val.{SFits, to_z, of_z}, Facts.{to_z-of_z, to_z_pos}}
use Rattle.writing.specs.Decimal.{digits_in, digit_count, decimal, signed}
use Rattle.writing.proofs.Decimal.{decimal_length}

-- ---- lengths, of every number: the definition has no digit past the twentieth

count_most : (more n : ℕ) → digits_in more n ≤ suc more
unfolding digits_in
count_most zero n = omega arith
count_most (suc more) n = go (ltb n 10) (count_most more (n / 10))
  where
    go : (b : Bool) → digits_in more (n / 10) ≤ suc more → cond b 1 (suc (digits_in more (n / 10))) ≤ suc (suc more)
    go true h = omega arith
    go false h = omega arith

pub decimal_at_most : (n : ℕ) → length (decimal n) ≤ 20
unfolding digit_count
decimal_at_most n = omega (arith, decimal_length n, count_most 19 n)

pub signed_at_most : (z : ℤ) → length (signed z) ≤ 21
unfolding signed
signed_at_most (pos n) = omega (arith, decimal_at_most n)
signed_at_most (negsuc n) = omega (arith, decimal_at_most (suc n))

-- ---- a number of 64 bits inverted, and as it is

below_bits : (z : ℤ) → SFits w64 z → lt_z z (pos 0) ≡ true → to_z w64 (18446744073709551615 - of_z w64 z) ≡ pos (mag z)
below_bits (pos n) f e = cc (leb-suc-zero n)
below_bits (negsuc n) f e =
    let same : 18446744073709551615 - (18446744073709551616 - suc n) ≡ n = omega (arith, f.sfits) in
    rw same (to_z_pos w64 f.sfits)

straight_bits : (z : ℤ) → lt_z z (pos 0) ≡ false → z ≡ pos (mag z)
straight_bits (pos n) e = refl
straight_bits (negsuc n) e = cc

-- ---- the text of each

pub signed_below : (z : ℤ) → lt_z z (pos 0) ≡ true → signed z ≡ 45 ∷ decimal (mag z + 1)
unfolding signed
signed_below (pos n) e = cc (leb-suc-zero n)
signed_below (negsuc n) e = rw add-one

pub signed_straight : (z : ℤ) → lt_z z (pos 0) ≡ false → signed z ≡ decimal (mag z)
unfolding signed
signed_straight (pos n) e = refl
signed_straight (negsuc n) e = cc

-- what the code's test of its bits says of a number z
module _ {z : ℤ} (f : SFits w64 z) where
  module _ (h : lt_z (to_z w64 (of_z w64 z)) (pos 0) ≡ true) where
    pub turned : to_z w64 (18446744073709551615 - of_z w64 z) ≡ pos (mag z)
    turned = below_bits z f (rw (to_z-of_z f) at h)

    pub turned_text : signed z ≡ 45 ∷ decimal (nat_abs (to_z w64 (18446744073709551615 - of_z w64 z)) + 1)
    turned_text = rw turned (signed_below z (rw (to_z-of_z f) at h))

  module _ (h : lt_z (to_z w64 (of_z w64 z)) (pos 0) ≡ false) where
    pub straight : to_z w64 (of_z w64 z) ≡ pos (mag z)
    straight = to_z-of_z f ∙ straight_bits z (rw (to_z-of_z f) at h)

    pub straight_text : signed z ≡ decimal (nat_abs (to_z w64 (of_z w64 z)))
    straight_text = rw straight (signed_straight z (rw (to_z-of_z f) at h))
