-- §11.2: bytes computed on numbers, at the ends of 64 bits and around 0.
use Rattle.std.specs.Prelude.{◌-◌, ◌^◌}
use mathlib.Core.{Path.{◌≡◌, refl}, List.{List, [], ◌∷◌, map}}
use Rattle.std.specs.Prelude.{ℤ, pos, negsuc}
use Rattle.c_bytes.specs.Bytes.{little_endian, twos_complement, bytes_of, bytes_of_all, nat_of, signed_of, number_of, numbers_of}

-- 0, 1, 255, 256, 1908000000, -1, -256, -257, and the greatest and the least
numbers : List ℤ
numbers =
    pos 0 ∷ pos 1 ∷ pos 255 ∷ pos 256 ∷ pos 1908000000 ∷ negsuc 0 ∷ negsuc 255 ∷ negsuc 256
    ∷ pos (2 ^ 63 - 1) ∷ negsuc (2 ^ 63 - 1) ∷ []

as_bytes : map bytes_of numbers ≡
    (0 ∷ 0 ∷ 0 ∷ 0 ∷ 0 ∷ 0 ∷ 0 ∷ 0 ∷ [])
    ∷ (1 ∷ 0 ∷ 0 ∷ 0 ∷ 0 ∷ 0 ∷ 0 ∷ 0 ∷ [])
    ∷ (255 ∷ 0 ∷ 0 ∷ 0 ∷ 0 ∷ 0 ∷ 0 ∷ 0 ∷ [])
    ∷ (0 ∷ 1 ∷ 0 ∷ 0 ∷ 0 ∷ 0 ∷ 0 ∷ 0 ∷ [])
    ∷ (0 ∷ 197 ∷ 185 ∷ 113 ∷ 0 ∷ 0 ∷ 0 ∷ 0 ∷ [])
    ∷ (255 ∷ 255 ∷ 255 ∷ 255 ∷ 255 ∷ 255 ∷ 255 ∷ 255 ∷ [])
    ∷ (0 ∷ 255 ∷ 255 ∷ 255 ∷ 255 ∷ 255 ∷ 255 ∷ 255 ∷ [])
    ∷ (255 ∷ 254 ∷ 255 ∷ 255 ∷ 255 ∷ 255 ∷ 255 ∷ 255 ∷ [])
    ∷ (255 ∷ 255 ∷ 255 ∷ 255 ∷ 255 ∷ 255 ∷ 255 ∷ 127 ∷ [])
    ∷ (0 ∷ 0 ∷ 0 ∷ 0 ∷ 0 ∷ 0 ∷ 0 ∷ 128 ∷ [])
    ∷ []
unfolding numbers little_endian twos_complement bytes_of
as_bytes = refl

read_again : numbers_of 10 (bytes_of_all numbers) ≡ numbers
unfolding numbers little_endian twos_complement bytes_of bytes_of_all nat_of signed_of number_of numbers_of
read_again = refl
