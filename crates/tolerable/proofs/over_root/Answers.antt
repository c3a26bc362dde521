-- `over_root` divides by √t.
use native.Mathlib.Omega.{arith}
use lib.Dec.{lit≤, lit<}
use Rattle.interval.proofs.Span.{span_size, span_divisor}
use Rattle.tolerable.specs.Ends.{tolerable_ends}
use Rattle.tolerable.proofs.{Spans.{top_span, time_span}}
use Rattle.tolerable.proofs.over_root.Goals as goal

pub quotient-requires : goal.quotient-requires
quotient-requires c =
    rw (c.top.ensures, c.requires.root_value) (record {
      pos_bound = span_divisor (lit≤ tt) (time_span c.requires.bounds);
      scale_bound = (lit< tt, omega (arith, span_size (top_span c.requires.bounds c.args.weight c.requires.weight_bound)));
    })

pub returns : goal.returns
unfolding tolerable_ends
returns c = cc
