-- The logarithm (§6.3) at small numbers, computed.
use Rattle.std.specs.Prelude.{ℕ, ◌≡◌, refl}
use lib.{Dec.{lit≤}, IntN.{pos, negsuc}}
use Rattle.std.proofs.Math.Decide.{dec_le}
use Rattle.interval.specs.{Operations.{natural, minus_of}}
use Rattle.exact.specs.{Fraction.{◌≈f◌, whole, decimal, ◌·f◌, inv, ◌÷f◌, top, choose}, Root.{greatest_below}, Logarithm.{halvings}}
use Rattle.logarithm.specs.Series.{square_of, power_of, term_of, terms_of}
use Rattle.logarithm.specs.Ends.{halvings_of, base_of, argument_of, doublings, near_of, end_of, up_ends, down_ends, ln_ends}
use Rattle.logarithm.specs.Asked.{width, inside, refused, answer_of}
use Rattle.refusal.specs.{Refused.{refuse}}

ends : ℕ
unfolding whole ◌·f◌ inv ◌÷f◌ top choose dec_le greatest_below halvings natural square_of power_of term_of terms_of halvings_of base_of argument_of
    doublings near_of end_of up_ends minus_of down_ends ln_ends
ends = 0

-- ln 10 is 2.302585092994..
ln_ten : ln_ends 10 1 ≡ record { lower = pos 2302585091; upper = pos 2302585097 }
unfolding ends
ln_ten = refl

-- ln (1/10), below one
ln_tenth : ln_ends 1 10 ≡ record { lower = negsuc 2302585096; upper = negsuc 2302585090 }
unfolding ends
ln_tenth = refl

-- ln of G = 5000/7
ln_mesh : ln_ends 5000 7 ≡ record { lower = pos 6571283041; upper = pos 6571283047 }
unfolding ends
ln_mesh = refl

-- both outside: the upper number comes first
both_outside : answer_of 0 1000000000000001 ≡ refuse 5 0 1
unfolding inside refused answer_of
both_outside = refl

lower_outside : answer_of 1000000000000000 1000000000000001 ≡ refuse 5 0 2
unfolding inside refused answer_of
lower_outside = refl

-- 200 billionths: two ten-millionths
width_is : width ≈f decimal 2 7
unfolding width decimal
width_is = record { to = record { le = lit≤ tt }; fro = record { le = lit≤ tt } }
