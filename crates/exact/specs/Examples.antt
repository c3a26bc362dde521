-- Values at depths 3 and 12, computed: tests of the definitions of π (§5.4), logarithm (§5.5) and exponential (§5.6).
use Rattle.std.specs.Prelude.{ℕ}
use Rattle.std.proofs.Math.Decide.{dec_le}
use lib.{Dec.{lit≤}, IntN.{pos, negsuc}}
use Rattle.exact.specs.Fraction.{whole, decimal, ◌+f◌, neg, ◌−f◌, ◌·f◌, inv, ◌÷f◌, top, powf, dec_lef, choose, minf, maxf, sum_of, ◌≤f◌}
use Rattle.exact.specs.Ends.{least, greatest, combine, ◌+e◌, ◌−e◌, ◌·e◌, minus_ends, ◌÷e◌}
use Rattle.exact.specs.{Exact.{exactly, ◌+x◌, ◌−x◌, ◌·x◌, minus, ◌÷x◌}, Root.{greatest_below}}
use Rattle.exact.specs.Logarithm.{argument, term, terms, tail, ln_near, halvings, ln_up, ln_of}
use Rattle.exact.specs.{Pi.{alternating, arctan_term, arctan_over, π}, Reported.{ten, over, reported}, Depth.{Within, SameEnds}}
use Rattle.exact.specs.Exponential.{factorial, exp_term, exp_terms, exp_near, least_from, doublings, small, power_ends, exp_up, exp_of}

-- what the values below are made of, opened by name
fractions : ℕ
unfolding whole decimal neg ◌+f◌ ◌−f◌ ◌·f◌ inv ◌÷f◌ top powf sum_of dec_lef dec_le choose minf maxf
fractions = 0

pairs : ℕ
unfolding least greatest combine ◌+e◌ ◌−e◌ ◌·e◌ ◌÷e◌ minus_ends exactly ◌+x◌ ◌−x◌ ◌·x◌ ◌÷x◌ minus reported over ten
pairs = 0

logarithms : ℕ
unfolding π arctan_over alternating arctan_term ln_of ln_up ln_near halvings greatest_below argument terms term tail fractions pairs
logarithms = 0

exponentials : ℕ
unfolding factorial exp_term exp_terms exp_near least_from doublings small power_ends exp_up exp_of fractions pairs
exponentials = 0

-- ---- π and logarithms

π_low : decimal 31415926 7 ≤f (π 3).lower
unfolding logarithms
π_low = record { le = lit≤ tt }

within_ln10 : Within (ln_of (whole 10) 12) (reported (ten 9) (record { lower = pos 2302585092; upper = pos 2302585093 }))
unfolding logarithms
within_ln10 = record { low = record { le = lit≤ tt }; high = record { le = lit≤ tt } }

-- below one: −2302585093 and −2302585092
within_ln_tenth : Within (ln_of (decimal 1 1) 12) (reported (ten 9) (record { lower = negsuc 2302585092; upper = negsuc 2302585091 }))
unfolding logarithms
within_ln_tenth = record { low = record { le = lit≤ tt }; high = record { le = lit≤ tt } }

-- ---- exponentials

-- e^0.3 at depth 3: 1 + 0.3 + 0.045, and 2 · 0.027 / 6 more
three_deep : SameEnds (exp_of (decimal 3 1) 3) (record { lower = decimal 1345 3; upper = decimal 1354 3 })
unfolding exponentials
three_deep =
    record {
      lowers = record { to = record { le = lit≤ tt }; fro = record { le = lit≤ tt } };
      uppers = record { to = record { le = lit≤ tt }; fro = record { le = lit≤ tt } };
    }

-- e is 2.718281828459..
within_e : Within (exp_of (whole 1) 12) (reported (ten 9) (record { lower = pos 2718281828; upper = pos 2718281829 }))
unfolding exponentials
within_e = record { low = record { le = lit≤ tt }; high = record { le = lit≤ tt } }

-- e^−5 is 0.006737946999.., by 2^4-th powers
within_e_minus_five : Within (exp_of (neg (whole 5)) 12) (reported (ten 9) (record { lower = pos 6737946; upper = pos 6737947 }))
unfolding exponentials
within_e_minus_five = record { low = record { le = lit≤ tt }; high = record { le = lit≤ tt } }

-- e^0 is 1
within_one : Within (exp_of (whole 0) 12) (reported (ten 9) (record { lower = pos 1000000000; upper = pos 1000000000 }))
unfolding exponentials
within_one = record { low = record { le = lit≤ tt }; high = record { le = lit≤ tt } }

-- e^−0.3
within_tenths : Within (exp_of (neg (decimal 3 1)) 12) (reported (ten 9) (record { lower = pos 740818220; upper = pos 740818221 }))
unfolding exponentials
within_tenths = record { low = record { le = lit≤ tt }; high = record { le = lit≤ tt } }
