-- Numbers as bytes. §11.2: "rows come back as eight-byte little-endian signed numbers".
use Rattle.std.specs.Prelude.{ℕ, zero, suc, ◌+◌, ◌-◌, ◌*◌, ◌/◌, ◌%◌, ◌^◌}
use mathlib.Core.{Bool.{cond}, List.{List, [], ◌∷◌, ◌++◌}}
use lib.{Dec.{ltb}, IntN.{ℤ, pos, negsuc}, ListN.{take, drop}}

-- how many bytes a number has
abbrev pub number_bytes : ℕ
number_bytes = 8

-- the last k bytes of n, the least significant first
unfoldable pub little_endian : ℕ → ℕ → List ℕ
little_endian zero n = []
little_endian (suc k) n = n % 256 ∷ little_endian k (n / 256)

-- a signed number in 64 bits: one below 0 is counted down from 2^64
unfoldable pub twos_complement : ℤ → ℕ
twos_complement (pos n) = n
twos_complement (negsuc n) = 2 ^ 64 - suc n

-- the bytes of a number
unfoldable pub bytes_of : ℤ → List ℕ
bytes_of z = little_endian number_bytes (twos_complement z)

-- the bytes of some numbers, one after the other
unfoldable pub bytes_of_all : List ℤ → List ℕ
bytes_of_all [] = []
bytes_of_all (z ∷ zs) = bytes_of z ++ bytes_of_all zs

-- ---- and back: what a C program reads

-- the number with these bytes, the least significant first
unfoldable pub nat_of : List ℕ → ℕ
nat_of [] = 0
nat_of (b ∷ bs) = b + 256 * nat_of bs

-- from 2^63 up the number is below 0
unfoldable pub signed_of : ℕ → ℤ
signed_of n = cond (ltb n (2 ^ 63)) (pos n) (negsuc (2 ^ 64 - suc n))

unfoldable pub number_of : List ℕ → ℤ
number_of bs = signed_of (nat_of bs)

-- the first k numbers of some bytes
unfoldable pub numbers_of : ℕ → List ℕ → List ℤ
numbers_of zero bs = []
numbers_of (suc k) bs = number_of (take number_bytes bs) ∷ numbers_of k (drop number_bytes bs)
