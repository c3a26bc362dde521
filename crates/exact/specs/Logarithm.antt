-- The natural logarithm. §5.5.
use Rattle.std.specs.Prelude.{ℕ, zero, suc, ◌+◌, ◌*◌, ◌^◌}
use Rattle.exact.specs.Fraction.{Fraction, whole, ◌+f◌, ◌−f◌, ◌·f◌, inv, ◌÷f◌, top, powf, dec_lef, choose}
use Rattle.exact.specs.{Exact.{Exact, exactly, ◌+x◌, ◌·x◌, minus}, Root.{greatest_below}}

-- z = (r − 1) / (r + 1)
unfoldable pub argument : Fraction → Fraction
argument r = (r −f whole 1) ÷f (r +f whole 1)

-- 2 z^(2i+1) / (2i+1)
unfoldable pub term : Fraction → ℕ → Fraction
term z i = whole 2 ·f powf z (2 * i + 1) ÷f whole (2 * i + 1)

-- k terms of 2 (z + z³/3 + z⁵/5 + ..)
unfoldable pub terms : Fraction → ℕ → Fraction
terms z zero = whole 0
terms z (suc k) = terms z k +f term z k

-- 2 z^(2k+1) / ((2k+1) (1 − z²))
unfoldable pub tail : Fraction → ℕ → Fraction
tail z k = whole 2 ·f powf z (2 * k + 1) ÷f (whole (2 * k + 1) ·f (whole 1 −f z ·f z))

-- "ln r for 1 ≤ r ≤ 2": k terms from below, and that plus the tail from above
unfoldable pub ln_near : Fraction → Exact
ln_near r k = record { lower = terms (argument r) k; upper = terms (argument r) k +f tail (argument r) k }

-- "m the greatest whole number for which 2^m ≤ q"
unfoldable pub halvings : Fraction → ℕ
halvings q = greatest_below (λ m. 2 ^ m * q.den) (top q) (top q)

-- "For q ≥ 1, ln q is m·ln 2 + ln(q/2^m)"
unfoldable pub ln_up : Fraction → Exact
ln_up q = exactly (whole (halvings q)) ·x ln_near (whole 2) +x ln_near (q ÷f whole (2 ^ halvings q))

-- "for q < 1 it is minus ln(1/q)"; q is positive
unfoldable pub ln_of : Fraction → Exact
ln_of q = choose (dec_lef (whole 1) q) (ln_up q) (minus (ln_up (inv q)))

-- "a root or logarithm of a pair runs from the lower end's lower to the upper end's upper"
unfoldable pub ln : Exact → Exact
ln x k = record { lower = (ln_of (x k).lower k).lower; upper = (ln_of (x k).upper k).upper }
