-- §5.5: the logarithm's series in whole numbers of one unit, 2^−33. `up` is 0 where each step is rounded down, and 1 where it is rounded
-- up.
use Rattle.std.specs.Prelude.{ℕ, zero, suc, ◌+◌, ◌*◌, ◌/◌}

-- how many units make one: 2^33
abbrev pub unit : ℕ
unit = 8589934592

-- after nine terms less than one unit is left
abbrev pub term_count : ℕ
term_count = 9

-- z²
unfoldable pub square_of : ℕ → ℕ → ℕ
square_of up z = z * z / unit + up

-- z^(2i+1)
unfoldable pub power_of : ℕ → ℕ → ℕ → ℕ
power_of up z zero = z
power_of up z (suc i) = power_of up z i * square_of up z / unit + up

-- 2 z^(2i+1) / (2i+1)
unfoldable pub term_of : ℕ → ℕ → ℕ → ℕ
term_of up z i = 2 * power_of up z i / (2 * i + 1) + up

-- k terms
unfoldable pub terms_of : ℕ → ℕ → ℕ → ℕ
terms_of up z zero = 0
terms_of up z (suc k) = terms_of up z k + term_of up z k
