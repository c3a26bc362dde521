-- π and ln 2 at depth 12, computed.
use Prim.Native.Nat.{ℕ}
use native.Mathlib.Decide.{dec_le}
use lib.{Dec.{lit≤}, IntN.{pos}}
use Rattle.exact.specs.Fraction.{whole, decimal, ◌+f◌, neg, ◌−f◌, ◌·f◌, inv, ◌÷f◌, top, powf, dec_lef, choose, minf, maxf}
use Rattle.exact.specs.{Ends.{least, greatest, combine, ◌+e◌, ◌−e◌, ◌·e◌, minus_ends}, Exact.{exactly, ◌+x◌, ◌−x◌, ◌·x◌, minus}}
use Rattle.exact.specs.{Root.{greatest_below}, Logarithm.{argument, term, terms, tail, ln_near, halvings, ln_up, ln_of}}
use Rattle.exact.specs.{Pi.{alternating, arctan_term, arctan_over, π}, Reported.{ten, over, reported}, Depth.{work_depth, Within}}

-- what the values below are made of, opened by name
fractions : ℕ
unfolding whole decimal neg ◌+f◌ ◌−f◌ ◌·f◌ inv ◌÷f◌ top powf dec_lef dec_le choose minf maxf
fractions = 0

pairs : ℕ
unfolding least greatest combine ◌+e◌ ◌−e◌ ◌·e◌ minus_ends exactly ◌+x◌ ◌−x◌ ◌·x◌ minus reported over ten
pairs = 0

values : ℕ
unfolding π arctan_over alternating arctan_term ln_of ln_up ln_near halvings greatest_below argument terms term tail fractions pairs
values = 0

-- ---- π

pub within_π : Within (π work_depth) (reported (ten 15) (record { lower = pos 3141592653589793; upper = pos 3141592653589794 }))
unfolding values
within_π = record { low = record { le = lit≤ tt }; high = record { le = lit≤ tt } }

-- ---- logarithms

pub within_ln2 : Within (ln_near (whole 2) 12) (reported (ten 12) (record { lower = pos 693147180559; upper = pos 693147180560 }))
unfolding values
within_ln2 = record { low = record { le = lit≤ tt }; high = record { le = lit≤ tt } }

pub within_ln_two : Within (ln_of (whole 2) 12) (reported (ten 9) (record { lower = pos 693147180; upper = pos 693147181 }))
unfolding values
within_ln_two = record { low = record { le = lit≤ tt }; high = record { le = lit≤ tt } }
