-- §5.5, §6.3: the ends of ln (p/q) in billionths, by whole numbers alone.
use Rattle.std.specs.Prelude.{ℕ, ◌+◌, ◌-◌, ◌*◌, ◌/◌, ◌^◌, ◌≤◌, cond}
use lib.{Dec.{ltb}, IntN.{nat_abs}}
use Rattle.interval.specs.{declared.Interval.{Interval}, Operations.{natural, minus_of}}
use Rattle.exact.specs.{Fraction.{whole, ◌÷f◌}, Logarithm.{halvings}}
use Rattle.logarithm.specs.Series.{unit, term_count, terms_of}

-- "whole numbers from 1 to 10^15"
abbrev pub most : ℕ
most = 1000000000000000

pub record Inside (n : ℕ) : Type 0 where
  pub low : 1 ≤ n
  pub high : n ≤ most

-- m with 2^m ≤ p/q < 2^(m+1)
unfoldable pub halvings_of : ℕ → ℕ → ℕ
halvings_of p q = halvings (whole p ÷f whole q)

-- q · 2^m
unfoldable pub base_of : ℕ → ℕ → ℕ
base_of p q = q * 2 ^ halvings_of p q

-- z = (p − b) / (p + b) in units, rounded down
unfoldable pub argument_of : ℕ → ℕ → ℕ
argument_of p q = (p - base_of p q) * unit / (p + base_of p q)

-- ln 2 in units of 10^−12, rounded down
abbrev pub ln2 : ℕ
ln2 = 693147180559

-- m ln 2 in billionths, rounded
unfoldable pub doublings : ℕ → ℕ → ℕ
doublings up m = m * (ln2 + up) / 1000 + up

-- ln r in billionths, rounded, for an argument of z units: upward, one unit stands for what follows the last term
unfoldable pub near_of : ℕ → ℕ → ℕ
near_of up z = (terms_of up z term_count + up) * 1000000000 / unit + up

unfoldable pub end_of : ℕ → ℕ → ℕ → ℕ
end_of up m z = doublings up m + near_of up z

-- how far above the lower end at z the upper end at z + 1 can be, in billionths
abbrev pub gap : ℕ
gap = 6

-- for q ≤ p: the argument lies between z and z + 1
unfoldable pub up_ends : ℕ → ℕ → Interval
up_ends p q =
    let e = end_of 0 (halvings_of p q) (argument_of p q) in
    natural e (e + gap)

-- for p < q: minus those of q/p
unfoldable pub down_ends : ℕ → ℕ → Interval
down_ends p q = minus_of (up_ends q p)

unfoldable pub ln_ends : ℕ → ℕ → Interval
ln_ends p q = cond (ltb p q) (down_ends p q) (up_ends p q)

-- for q ≤ p, both ends by the terms: closer, for what is computed once and kept in a table
unfoldable pub close_ends : ℕ → ℕ → Interval
close_ends p q = natural (end_of 0 (halvings_of p q) (argument_of p q)) (end_of 1 (halvings_of p q) (argument_of p q + 1))

-- of a pair x over q, which is not above it: from the lower end at x's lower end to the upper end at its upper end
unfoldable pub ln_pair : Interval → ℕ → Interval
ln_pair x q = record { lower = (close_ends (nat_abs x.lower) q).lower; upper = (close_ends (nat_abs x.upper) q).upper }
