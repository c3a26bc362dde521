-- Which of two values is above, by two intervals of one unit; and how far apart the reported ends are.
use lib.{Dec.{lit≤}, Signed.{◌≤ℤ◌, ◌<ℤ◌}}
use Rattle.interval.specs.declared.Interval.{Interval}
use Rattle.exact.{specs.{Exact.{Exact, Above, AtOrBelow}, Depth.{Consistent}, Reported.{Scale, reported}}, proofs.Reported.{over≤, over<}}
use Rattle.exact.proofs.Verdict.{at_or_below, above}
use Rattle.enclosure.specs.Enclosure.{Encloses}
use Rattle.enclosure.proofs.Basics.{holds}

-- safe
pub encloses_at_or_below : {x y : Exact} {u : Scale} {i j : Interval} → Consistent x → Consistent y → Encloses x u i → Encloses y u j
    → i.upper ≤ℤ j.lower → AtOrBelow x y
unfolding reported
encloses_at_or_below {u = u} cx cy ex ey h = at_or_below (holds cx ex) (holds cy ey) (over≤ u h)

-- unsafe
pub encloses_above : {x y : Exact} {u : Scale} {i j : Interval} → Encloses x u i → Encloses y u j → j.upper <ℤ i.lower → Above x y
unfolding reported
encloses_above {u = u} ex ey h = above (lit≤ tt) ex.within ey.within (over< u h)
