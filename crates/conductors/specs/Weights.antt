-- §4.6, §4.7: the ends of what depends on n alone: ln(8/(π(2n−1))), (2n) to the power −2/n, 0.5^(n−2). n is a pair in 10^−7. These name the
-- free part of the answers: callers use only their laws.
use Rattle.std.specs.Prelude.{ℕ, ◌+◌, ◌-◌}
use mathlib.Core.{Bool.{cond}, List.{List, [], ◌∷◌}}
use lib.{Dec.{eqb}, ListN.{get_or}, IntN.{pos}}
use Rattle.interval.specs.declared.Interval.{Interval}
use Rattle.interval.specs.Operations.{natural, point, difference_of, minus_of, scaled_of, product_of, quotient_of}
use Rattle.enclosure.specs.Pi.{π_ends}
use Rattle.logarithm.specs.Ends.{ln_pair}
use Rattle.exponential.specs.Ends.{close_pair}

-- 8 in 10^−12
abbrev pub eight : ℕ
eight = 8000000000000

-- π(2n−1) in 10^−12
unfoldable pub odd_ends : Interval → Interval
odd_ends n = product_of π_ends (difference_of (scaled_of n 2) (point (pos 10000000))) 10000

-- ln(8/(π(2n−1))) in 10^−9, below 0
unfoldable pub spread_ends : Interval → Interval
spread_ends n = minus_of (ln_pair (odd_ends n) eight)

-- (2/n)·ln(2n) in 10^−9
unfoldable pub inner_exponent : Interval → Interval
inner_exponent n = product_of (quotient_of (point (pos 20000000)) n 1000000000) (ln_pair (scaled_of n 2) 10000000) 1000000000

-- the n-th root of 4n² in 10^−9, rounded down, for n from 2 to 25
unfoldable pub roots : List ℕ
roots =
    4000000000 ∷ 3301927248 ∷ 2828427124 ∷ 2511886431 ∷ 2289428485 ∷ 2125519790
    ∷ 2000000000 ∷ 1900856996 ∷ 1820564203 ∷ 1754190889 ∷ 1698381329 ∷ 1650776232
    ∷ 1609670042 ∷ 1573799853 ∷ 1542210825 ∷ 1514167743 ∷ 1489095324 ∷ 1466536951
    ∷ 1446125549 ∷ 1427562629 ∷ 1410602953 ∷ 1395043139 ∷ 1380713071 ∷ 1367469347
    ∷ []

unfoldable pub root_of : ℕ → ℕ
root_of n = get_or roots (n - 2) 0

-- (2n) to the power −2/n in 10^−9: of a square one over the root, else by the exponential
unfoldable pub inner_ends : ℕ → ℕ → Interval → Interval
inner_ends a b n =
    cond (eqb a b) (quotient_of (point (pos 1000000000)) (natural (root_of a) (root_of a + 1)) 1000000000) (close_pair (inner_exponent n))

-- ln 2 in 10^−9
unfoldable pub ln2_ends : Interval
ln2_ends = natural 693147180 693147181

-- (n−2)·ln 2 in 10^−9
unfoldable pub half_exponent : Interval → Interval
half_exponent n = product_of (difference_of n (point (pos 20000000))) ln2_ends 10000000

-- 0.5^(n−2) in 10^−9, for unequal counts
unfoldable pub half_power_ends : Interval → Interval
half_power_ends n = close_pair (half_exponent n)
