-- The library takes byte i by one division by 256 ^ i, and `little_endian` divides by 256 again and again.
use Rattle.std.proofs.Common.{ℕ, zero, suc, ◌≡◌, ◌/◌, ◌%◌, ◌^◌, refl, ℤ, pos, negsuc, w64}
use Rattle.std.specs.Int.{byte_at, bytes_low_first, cast_unsigned}
use mir.Facts.{to_z-of_z}
use native.Mathlib.Nat.{div-div-eq-div-mul, pow-suc, div-one}
use Rattle.c_bytes.specs.Bytes.{number_bytes, little_endian, twos_complement, bytes_of}
use Rattle.c_bytes.proofs.put_number.Goals as goal

byte_there : (i n : ℕ) → byte_at i n ≡ n / 256 ^ i % 256
byte_there zero n = rw div-one
byte_there (suc i) n = refl

from_low : (i k n : ℕ) → bytes_low_first i k n ≡ little_endian k (n / 256 ^ i)
unfolding little_endian
from_low i zero n = refl
from_low i (suc k) n =
    let next : n / 256 ^ suc i ≡ n / 256 ^ i / 256 = rw (pow-suc, div-div-eq-div-mul) in
    rw (byte_there i n, from_low (suc i) k n, next)

same_word : (z : ℤ) → cast_unsigned w64 z ≡ twos_complement z
unfolding twos_complement
same_word (pos n) = refl
same_word (negsuc n) = refl

pub returns : goal.returns
unfolding bytes_of
returns c =
    rw (c.copy_from_slice.ensures.after, c.to_le_bytes.ensures, to_z-of_z c.ranges.z, from_low 0 number_bytes (cast_unsigned w64 c.args.z), div-one, same_word c.args.z)
