-- `top` keeps within 64 bits by the spans of its parts.
use Prim.Native.Nat.{◌≤◌}
use native.Mathlib.{Omega.{arith}, Nat.{le_trans, mul-le-mul}}
use lib.IntN.{pos}
use Rattle.interval.{specs.Operations.{point, size, sum_of, scaled_of}, proofs.{Sizes.{size_point, size_sum, size_scaled}, Span.{span_size}}}
use Rattle.tolerable.specs.Ends.{layer_ends, top_ends}
use Rattle.tolerable.proofs.{Layer.{layer_span}, Spans.{body_bounds}}
use Rattle.tolerable.proofs.top.Goals as goal
use Rattle.tolerable.proofs.top.Goals.{Start}

-- the sizes after each step
effect_size : (s : Start) → size (scaled_of (layer_ends s.args.c) s.args.weight) ≤ 120000000
effect_size s =
    le_trans (size_scaled (layer_ends s.args.c) s.args.weight) (mul-le-mul (span_size (layer_span s.requires.bounds)) s.requires.weight_bound)

sum_size : (s : Start) → size (sum_of (point (pos 2000000)) (scaled_of (layer_ends s.args.c) s.args.weight)) ≤ 122000000
sum_size s =
    omega (arith, size_sum (point (pos 2000000)) (scaled_of (layer_ends s.args.c) s.args.weight), size_point 2000000, effect_size s)

pub scaled-effect-requires : goal.scaled-effect-requires
scaled-effect-requires c =
    rw c.layer_effect.ensures (omega arith, omega (arith, mul-le-mul (span_size (layer_span c.requires.bounds)) c.requires.weight_bound))

pub sum-requires : goal.sum-requires
sum-requires c =
    rw (c.point.ensures, c.scaled-effect.ensures, c.layer_effect.ensures, size_point 2000000)
    (omega (arith, effect_size (goal.at.sum-requires c).Start))

pub scaled-requires : goal.scaled-requires
scaled-requires c =
    let k = body_bounds c.requires.bounds in
    rw (c.body_factor.ensures, c.sum.ensures, c.point.ensures, c.scaled-effect.ensures, c.layer_effect.ensures)
    (omega (arith, k.high), omega (arith, mul-le-mul (sum_size (goal.at.scaled-requires c).Start) k.high))

pub returns : goal.returns
unfolding top_ends
returns c = cc
