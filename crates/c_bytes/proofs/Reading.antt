-- What is read from the bytes of a number is the number, and from the bytes of some numbers those numbers.
use Prim.Native.Nat.{ℕ, zero, suc, ◌-◌, ◌/◌, ◌^◌, ◌≤◌, ◌<◌}
use mathlib.Core.{Path.{◌≡◌, refl, ap, ◌∙◌}, List.{List, [], ◌∷◌}}
use native.Mathlib.{Nat.{pow-suc, div-lt_iff_lt-mul}, Omega.{arith}}
use borrow.Author.Tests.{lt-ltb, le-ltb}
use lib.{IntN.{ℤ, pos, negsuc}, ListN.{length, get_or}, Seq.{take_at, drop_at}}
use mir.{Syntax.{w64}, Val.{SFits}}
use Rattle.c_bytes.specs.Bytes.{number_bytes, little_endian, twos_complement, bytes_of, bytes_of_all, nat_of, signed_of, number_of, numbers_of}

pub word_back : (k n : ℕ) → n < 256 ^ k → nat_of (little_endian k n) ≡ n
unfolding little_endian nat_of
word_back zero n h = omega arith
word_back (suc k) n h =
    let q : n / 256 < 256 ^ k = (div-lt_iff_lt-mul {k = 256} (omega arith)).1 (rw pow-suc at h) in
    rw (word_back k (n / 256) q) (omega arith)

pub twos_complement_small : (z : ℤ) → SFits w64 z → twos_complement z < 256 ^ 8
unfolding twos_complement
twos_complement_small (pos n) f = omega (arith, f.sfits)
twos_complement_small (negsuc n) f = omega arith

pub signed_back : (z : ℤ) → SFits w64 z → signed_of (twos_complement z) ≡ z
unfolding twos_complement signed_of
signed_back (pos n) f = rw (lt-ltb n (2 ^ 63) f.sfits)
signed_back (negsuc n) f =
    let h : 2 ^ 63 ≤ 2 ^ 64 - suc n = omega (arith, f.sfits) in
    rw (le-ltb (2 ^ 64 - suc n) (2 ^ 63) h) (ap negsuc (omega (arith, f.sfits)))

pub number_back : (z : ℤ) → SFits w64 z → number_of (bytes_of z) ≡ z
unfolding number_of bytes_of
number_back z f = ap signed_of (word_back 8 (twos_complement z) (twos_complement_small z f)) ∙ signed_back z f

pub bytes_length : (z : ℤ) → length (bytes_of z) ≡ number_bytes
unfolding little_endian bytes_of
bytes_length z = refl

pub numbers_back : (zs : List ℤ) → ((k : ℕ) → k < length zs → SFits w64 (get_or zs k (pos 0))) → numbers_of (length zs) (bytes_of_all zs) ≡ zs
unfolding bytes_of_all numbers_of
numbers_back [] f = refl
numbers_back (z ∷ zs) f =
    rw (
      take_at (bytes_of z) (bytes_of_all zs) number_bytes (bytes_length z),
      drop_at (bytes_of z) (bytes_of_all zs) number_bytes (bytes_length z),
      number_back z (f 0 (omega arith)),
      numbers_back zs (λ k h. f (suc k) (omega arith)),
    )
