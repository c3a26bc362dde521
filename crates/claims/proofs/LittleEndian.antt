-- Byte k of a number in its bytes is its k-th digit to the base 256.
use Prim.Native.Nat.{ℕ, zero, suc, ◌+◌, ◌*◌, ◌/◌, ◌%◌, ◌^◌, ◌<◌}
use mathlib.Core.{Path.{◌≡◌, sym, ap, ◌∙◌}, List.{List, [], ◌∷◌, ◌++◌}}
use native.Mathlib.Omega.{arith}
use native.Mathlib.Nat.{div-one, div-div-eq-div-mul, pow-succ'}
use lib.{IntN.{ℤ, pos}, ListN.{length, get_or, get_or-append}, Seq.{drop_at, get_or-drop}}
use Rattle.c_bytes.{specs.Bytes.{little_endian, twos_complement, bytes_of, bytes_of_all}, proofs.Reading.{bytes_length}}

digit_at : (m n k : ℕ) → k < m → get_or (little_endian m n) k 0 ≡ n / 256 ^ k % 256
unfolding little_endian
digit_at zero n k h = absurd (omega arith)
digit_at (suc m) n zero h = ap (λ (x : ℕ). x % 256) (sym (div-one n))
digit_at (suc m) n (suc k) h =
    digit_at m (n / 256) k (omega arith)
    ∙ ap (λ (x : ℕ). x % 256) (div-div-eq-div-mul n 256 (256 ^ k) ∙ ap (λ (x : ℕ). n / x) (sym (pow-succ' 256 k)))

-- the bytes of number j stand after those of the numbers before it
number_at : (zs : List ℤ) (j k : ℕ) → j < length zs → k < 8 → get_or (bytes_of_all zs) (8 * j + k) 0 ≡ get_or (bytes_of (get_or zs j (pos 0))) k 0
unfolding bytes_of_all
number_at [] j k h l = absurd (omega arith)
number_at (z ∷ zs) zero k h l =
    let e : 8 * 0 + k ≡ k = omega arith in
    rw e (get_or-append (bytes_of z) (bytes_of_all zs) 0 k (omega (arith, bytes_length z)))
number_at (z ∷ zs) (suc j) k h l =
    let e : 8 * suc j + k ≡ 8 + (8 * j + k) = omega arith in
    rw e (sym (get_or-drop 8 (bytes_of z ++ bytes_of_all zs) (8 * j + k) 0)
    ∙ ap (λ (bs : List ℕ). get_or bs (8 * j + k) 0) (drop_at (bytes_of z) (bytes_of_all zs) 8 (bytes_length z))
    ∙ number_at zs j k (omega arith) l)

pub byte_at : (zs : List ℤ) (j k : ℕ) → j < length zs → k < 8
    → get_or (bytes_of_all zs) (8 * j + k) 0 ≡ twos_complement (get_or zs j (pos 0)) / 256 ^ k % 256
unfolding bytes_of
byte_at zs j k h l = number_at zs j k h l ∙ digit_at 8 (twos_complement (get_or zs j (pos 0))) k l
