-- `whole` rounds the upper end up.
use mathlib.Core.Path.{◌≡◌}
use native.Mathlib.Omega.{arith}
use borrow.Author.Rules.{rules}
use lib.IntN.{nat_abs}
use mir.Facts.{to_z-of_z}
use Rattle.std.specs.Int.{div_ceil}
use Rattle.whole.{specs.Whole.{ceil_div}, proofs.Bits.{natural_cast}}
use Rattle.interval.{specs.Span.{Span}, proofs.{Held.{Held}, SpanFits.{read_upper}}}
use Rattle.exact.specs.Reported.{ten}
use Rattle.readings.specs.{Report.{μΩm, soil_of}, Ends.{most_mean}}
use Rattle.readings.proofs.whole.Goals as goal
use Rattle.readings.proofs.whole.Goals.{Start}

module _ (c : Start) where
  held : Held c.args.mean
  held = search rules

  span : Span c.args.mean 0 most_mean most_mean
  span = c.requires

pub overflow_cast-mean : goal.overflow_cast-mean
overflow_cast-mean c =
    let s = (goal.at.overflow_cast-mean c).Start in
    natural_cast (span s).b (held s).1 (read_upper (held s) (span s))

pub overflow_cast-result : goal.overflow_cast-result
overflow_cast-result c =
    let s = (goal.at.overflow_cast-result c).Start in
    let e : c.div_ceil.result ≡ div_ceil (span s).b 1000000 = rw (read_upper (held s) (span s)) at c.div_ceil.ensures in
    record { fits = omega (arith, e, (span s).to) }

pub returns : goal.returns
unfolding soil_of ceil_div μΩm ten
returns c =
    let s = (goal.at.returns c).Start in
    let e : c.div_ceil.result ≡ div_ceil (nat_abs c.args.mean.upper) 1000000 = rw (to_z-of_z (held s).1) at c.div_ceil.ensures in
    omega (arith, e)
