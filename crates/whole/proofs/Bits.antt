-- What signed locals hold: bits, which a need reads back as `to_z w64 (of_z w64 z)`. Where z fits, that is z.
use Prim.Native.Nat.{ℕ, suc, ◌-◌, ◌≤◌, ◌<◌, ◌^◌}
use mathlib.Core.{Path.{◌≡◌, refl}, Bool.{true, false}}
use native.Mathlib.Omega.{arith}
use lib.{IntN.{ℤ, pos, negsuc, neg_ℤ, nat_abs, ◌-ℤ◌, +ℤ_idl}, Dec.{T, leb-suc-zero}, Signed.{mag, non_neg, lt_z}}
use mir.{Syntax.{w64}, Val.{Fits, SFits, to_z, of_z}, Facts.{to_z-of_z, to_z_pos, to_z-neg, Fits-nat_abs}}
use Rattle.whole.specs.Whole.{flip_z}
use Rattle.whole.proofs.Signed.{size_neg}

abbrev pub read : ℤ → ℤ
read z = to_z w64 (of_z w64 z)

-- of a call's result, `back c.f.result c.f.ok`
pub back : (z : ℤ) → mag z < 2 ^ 63 → read z ≡ z
back z h = to_z-of_z {w = w64} (record { sfits = h })

-- a natural end as an unsigned number
pub natural_cast : {z : ℤ} (n : ℕ) → SFits w64 z → read z ≡ pos n → T (non_neg (read z)) × Fits w64 (nat_abs (read z))
natural_cast n f e = (rw e tt, rw (to_z-of_z f) (Fits-nat_abs tt f))

mag≤ : (z : ℤ) → mag z ≤ nat_abs z
mag≤ (pos n) = omega arith
mag≤ (negsuc n) = omega arith

pub small_fits : {z : ℤ} → nat_abs z < 2 ^ 63 → SFits w64 z
small_fits {z} h = record { sfits = omega (arith, mag≤ z) }

-- an operation on what two locals hold
module _ (op : ℤ → ℤ → ℤ) {a b : ℤ} (fa : SFits w64 a) (fb : SFits w64 b) (h : nat_abs (op a b) < 2 ^ 63) where
  pub result_fits : SFits w64 (op (read a) (read b))
  result_fits = rw (to_z-of_z fa, to_z-of_z fb) (small_fits h)

  pub result_is : read (op (read a) (read b)) ≡ op a b
  result_is = rw (to_z-of_z fa, to_z-of_z fb) (to_z-of_z (small_fits h))

-- minus what a local holds, as 0 − z
module _ {z : ℤ} (f : SFits w64 z) (h : nat_abs z < 2 ^ 63) where
  fits : SFits w64 (neg_ℤ z)
  fits = small_fits (rw size_neg h)

  pub negated_fits : SFits w64 (pos 0 -ℤ read z)
  negated_fits = rw (to_z-of_z f, +ℤ_idl) fits

  pub negated_is : read (pos 0 -ℤ read z) ≡ neg_ℤ z
  negated_is = rw (to_z-of_z f, +ℤ_idl) (to_z-of_z fits)

-- the bits of −1 − a are those of a, inverted
pub flipped : (a : ℤ) → SFits w64 a → to_z w64 (18446744073709551615 - of_z w64 a) ≡ flip_z a
flipped (pos n) f =
    let e : 18446744073709551615 - n ≡ 18446744073709551616 - suc n = omega arith in
    rw e (to_z-neg w64 n f.sfits)
flipped (negsuc n) f =
    let e : 18446744073709551615 - (18446744073709551616 - suc n) ≡ n = omega (arith, f.sfits) in
    rw e (to_z_pos w64 f.sfits)

-- a test of the sign, on what a local holds
module _ (a : ℤ) (f : SFits w64 a) where
  pub below_zero : lt_z (read a) (pos 0) ≡ true → a ≡ negsuc (mag a)
  below_zero h = go a (rw (to_z-of_z f) at h)
    where
      go : (z : ℤ) → lt_z z (pos 0) ≡ true → z ≡ negsuc (mag z)
      go (pos n) e = cc (leb-suc-zero n)
      go (negsuc n) e = refl

  pub not_below_zero : lt_z (read a) (pos 0) ≡ false → a ≡ pos (mag a)
  not_below_zero h = go a (rw (to_z-of_z f) at h)
    where
      go : (z : ℤ) → lt_z z (pos 0) ≡ false → z ≡ pos (mag z)
      go (pos n) e = refl
      go (negsuc n) e = cc
