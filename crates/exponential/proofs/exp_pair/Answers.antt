-- `exponential::exp_pair` takes the ends of a pair of exponents.
use borrow.Author.Rules.{rules}
use mir.Facts.{to_z-of_z}
use Rattle.whole.proofs.Bits.{natural_cast}
use Rattle.interval.{specs.Span.{Span}, proofs.{Held.{Held}, SpanFits.{read_lower, read_upper}}}
use Rattle.exponential.specs.Ends.{most, exp_pair}
use Rattle.exponential.proofs.exp_pair.Goals as goal
use Rattle.exponential.proofs.exp_pair.Goals.{Start}

module _ (s : Start) where
  held : Held s.args.q
  held = search rules

  span : Span s.args.q 0 most most
  span = s.requires

pub overflow_cast-q : goal.overflow_cast-q
overflow_cast-q c = natural_cast (span (goal.at.overflow_cast-q c).Start).a (held (goal.at.overflow_cast-q c).Start).0 (read_lower (held (goal.at.overflow_cast-q c).Start) (span (goal.at.overflow_cast-q c).Start))

pub overflow_cast-q-2 : goal.overflow_cast-q-2
overflow_cast-q-2 c = natural_cast (span (goal.at.overflow_cast-q-2 c).Start).b (held (goal.at.overflow_cast-q-2 c).Start).1 (read_upper (held (goal.at.overflow_cast-q-2 c).Start) (span (goal.at.overflow_cast-q-2 c).Start))

pub exp_ends-requires : goal.exp_ends-requires
exp_ends-requires c =
    rw (read_lower (held (goal.at.exp_ends-requires c).Start) (span (goal.at.exp_ends-requires c).Start), read_upper (held (goal.at.exp_ends-requires c).Start) (span (goal.at.exp_ends-requires c).Start)) ((span (goal.at.exp_ends-requires c).Start).order, (span (goal.at.exp_ends-requires c).Start).to)

pub returns : goal.returns
unfolding exp_pair
returns c =
    rw (c.exp_ends.ensures, to_z-of_z (held (goal.at.returns c).Start).0, to_z-of_z (held (goal.at.returns c).Start).1)
