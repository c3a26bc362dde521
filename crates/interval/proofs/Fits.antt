-- Unsigned numbers within 64 bits, from bounds on them or on their factors.
use Prim.Native.Nat.{ℕ, ◌*◌, ◌≤◌, ◌<◌, ◌^◌}
use native.Mathlib.Nat.{mul-le-mul, lt_of_le_of_lt}
use mir.{Syntax.{w64}, Val.{Fits}}

pub fits_below : {a m : ℕ} → a ≤ m → m < 2 ^ 64 → Fits w64 a
fits_below h l = record { fits = lt_of_le_of_lt h l }

pub fits_product : {a b m n : ℕ} → a ≤ m → b ≤ n → m * n < 2 ^ 64 → Fits w64 (a * b)
fits_product h k l = fits_below (mul-le-mul h k) l

pub fits_triple : {a b c m n o : ℕ} → a ≤ m → b ≤ n → c ≤ o → m * n * o < 2 ^ 64 → Fits w64 (a * b * c)
fits_triple h k l = fits_product (mul-le-mul h k) l
