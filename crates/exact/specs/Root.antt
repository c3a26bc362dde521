-- Roots. §5.3: "A root lies between the greatest multiple of 10^−k not above it and the next one".
use Rattle.std.specs.Prelude.{ℕ, zero, suc, ◌*◌, ◌^◌}
use Rattle.std.proofs.Math.Decide.{dec_le}
use Rattle.exact.specs.{Fraction.{Fraction, decimal, top, choose}, Exact.{Exact}}

-- the greatest number, from `most` down, at which f is not above `limit`; 0 where there is none
unfoldable pub greatest_below : (ℕ → ℕ) → ℕ → ℕ → ℕ
greatest_below f limit zero = zero
greatest_below f limit (suc most) = choose (dec_le (f (suc most)) limit) (suc most) (greatest_below f limit most)

-- the greatest r for which r / 10^k is not above the n-th root of q: r^n · den ≤ (10^k)^n · top
unfoldable pub root_digits : ℕ → Fraction → ℕ → ℕ
root_digits n q k = greatest_below (λ r. r ^ n * q.den) ((10 ^ k) ^ n * top q) ((10 ^ k) ^ n * top q)

-- the n-th root of a fraction that is not negative
unfoldable pub root_of : ℕ → Fraction → Exact
root_of n q k = record { lower = decimal (root_digits n q k) k; upper = decimal (suc (root_digits n q k)) k }

-- "a root or logarithm of a pair runs from the lower end's lower to the upper end's upper"
unfoldable pub root : ℕ → Exact → Exact
root n x k = record { lower = (root_of n (x k).lower k).lower; upper = (root_of n (x k).upper k).upper }
