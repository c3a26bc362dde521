-- Signed whole numbers rounded down and up, and the lesser and the greater of two.
use Rattle.std.specs.Prelude.{ℕ, ◌+◌, ◌-◌, ◌/◌, cond}
use lib.{IntN.{ℤ, pos, negsuc, neg_ℤ}, Signed.{shr_z, le_z}}

-- −1 − z
abbrev pub flip_z : ℤ → ℤ
flip_z (pos n) = negsuc n
flip_z (negsuc n) = pos n

-- z / d rounded toward the lower end, also below 0
unfoldable pub floor_z : ℤ → ℕ → ℤ
floor_z z d = shr_z z d

-- z / d rounded toward the upper end
unfoldable pub ceil_z : ℤ → ℕ → ℤ
ceil_z z d = neg_ℤ (floor_z (neg_ℤ z) d)

-- n / d rounded up, for naturals
unfoldable pub ceil_div : ℕ → ℕ → ℕ
ceil_div n d = (n + (d - 1)) / d

unfoldable pub min_z : ℤ → ℤ → ℤ
min_z a b = cond (le_z a b) a b

unfoldable pub max_z : ℤ → ℤ → ℤ
max_z a b = cond (le_z a b) b a
