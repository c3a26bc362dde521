-- The ends of e^−q (§5.6) in billionths, for q in billionths, by whole numbers alone: one over twelve terms of e^(q/2^j), squared j times,
-- all in quarters of a billionth. This gives the lower end, and the upper one is as far above it as the calculation can err. `up` is 0
-- where a step is rounded down, and 1 where it is rounded up: the steps rounded the other way justify the upper end.
use Rattle.std.specs.Prelude.{ℕ, zero, suc, ◌+◌, ◌-◌, ◌*◌, ◌/◌, ◌^◌, min, cond}
use lib.{Dec.{ltb}, IntN.{pos, nat_abs}}
use Rattle.interval.specs.{declared.Interval.{Interval}, Operations.{natural}}
use Rattle.exact.specs.{Exponential.{doublings}, Reported.{ten, over}}

abbrev pub billion : ℕ
billion = 1000000000

-- one, in quarters of a billionth
abbrev pub unit : ℕ
unit = 4000000000

-- the largest exponent, 8,000
abbrev pub most : ℕ
most = 8000000000000

-- 22: from here on e^−q is below a billionth
abbrev pub large : ℕ
large = 22000000000

-- terms after the first: twelve in all, as many as the depth at which the code computes
abbrev pub levels : ℕ
levels = 11

-- the least j for which q/2^j is at most 1/2
unfoldable pub halvings_of : ℕ → ℕ
halvings_of q = doublings (over (pos q) (ten 9))

-- y = q/2^j
unfoldable pub argument_of : ℕ → ℕ → ℕ → ℕ
argument_of up j q = 4 * q / 2 ^ j + up

-- 1 + y/(i+1) (1 + y/(i+2) (..)), n levels
unfoldable pub nested_of : ℕ → ℕ → ℕ → ℕ → ℕ
nested_of up y i zero = unit
nested_of up y i (suc n) = unit + (y * nested_of up y (suc i) n / (unit * suc i) + up)

-- twelve terms of e^y; upward, one unit more stands for what follows them
unfoldable pub series_of : ℕ → ℕ → ℕ
series_of up y = nested_of up y 0 levels + up

-- one over s; upward, one unit more stands for what follows the terms of s
unfoldable pub inverse_of : ℕ → ℕ → ℕ
inverse_of up s = unit * unit / s + 2 * up

-- squared m times
unfoldable pub squared_of : ℕ → ℕ → ℕ → ℕ
squared_of up v zero = v
squared_of up v (suc m) = squared_of up v m * squared_of up v m / unit + up

-- an end of e^−q by j halvings: `down` is 1 where `up` is 0, since one over e^y falls as e^y grows
unfoldable pub end_of : ℕ → ℕ → ℕ → ℕ → ℕ
end_of up down j q = squared_of up (inverse_of up (series_of down (argument_of down j q))) j

-- how far a calculation by j squarings can err, in quarters of a billionth: from the third on a squaring makes it less
unfoldable pub error_of : ℕ → ℕ
error_of j = 12 * 2 ^ min j 2 - 2

-- how far above the lower end, by b, the upper end, by a, can be, in quarters: e^−q falls by less than q grows
unfoldable pub gap_of : ℕ → ℕ → ℕ → ℕ
gap_of j a b = 4 * (b - a) + error_of j

-- the two ends from l quarters, g quarters apart: at most 1
unfoldable pub pair_of : ℕ → ℕ → Interval
pair_of l g = natural (l / 4) (min ((l + g) / 4 + 1) billion)

-- for q from a to b, by the halvings of b
unfoldable pub near_ends : ℕ → ℕ → Interval
near_ends a b = pair_of (end_of 0 1 (halvings_of b) b) (gap_of (halvings_of b) a b)

unfoldable pub exp_ends : ℕ → ℕ → Interval
exp_ends a b = cond (ltb a large) (near_ends a b) (natural 0 1)

-- of a pair of exponents
unfoldable pub exp_pair : Interval → Interval
exp_pair q = exp_ends (nat_abs q.lower) (nat_abs q.upper)

-- the same with both ends by the terms: closer, for what is computed once and kept in a table
unfoldable pub close_ends : ℕ → ℕ → Interval
close_ends a b = natural (end_of 0 1 (halvings_of b) b / 4) (end_of 1 0 (halvings_of b) a / 4 + 1)

unfoldable pub close_pair : Interval → Interval
close_pair q = close_ends (nat_abs q.lower) (nat_abs q.upper)
