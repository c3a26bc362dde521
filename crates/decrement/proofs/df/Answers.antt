-- `df` takes the roots of the square's ends times 10^9, which keep within 64 bits.
use Prim.Native.Nat.{◌+◌, ◌≤◌}
use native.Mathlib.Omega.{arith}
use mir.Facts.{to_z-of_z}
use Rattle.interval.{specs.Span.{Span}, proofs.{Held.{Held}, SpanFits.{read_lower, read_upper}}}
use Rattle.whole.proofs.Bits.{natural_cast}
use Rattle.enclosure.proofs.SquareRoot.{square_root_is}
use Rattle.exponential.specs.Ends.{billion}
use Rattle.decrement.specs.Ends.{df_ends}
use Rattle.decrement.proofs.{Widths.{square_span, root_most}}
use borrow.Author.Rules.{rules}
use Rattle.decrement.proofs.df.Goals as goal
use Rattle.decrement.proofs.df.Goals.{After-square-s}

module _ (c : After-square-s) where
  held : Held c.square-s.result
  held = search rules

  span : Span c.square-s.result billion 5000000009 811
  span = rw c.square-s.ensures (square_span c.requires)

pub overflow_cast-s : goal.overflow_cast-s
overflow_cast-s c = natural_cast (span (goal.at.overflow_cast-s c).After-square-s).a (held (goal.at.overflow_cast-s c).After-square-s).0 (read_lower (held (goal.at.overflow_cast-s c).After-square-s) (span (goal.at.overflow_cast-s c).After-square-s))

pub overflow_mul-s : goal.overflow_mul-s
overflow_mul-s c = rw (read_lower (held (goal.at.overflow_mul-s c).After-square-s) (span (goal.at.overflow_mul-s c).After-square-s)) (record { fits = omega (arith, (span (goal.at.overflow_mul-s c).After-square-s).order, (span (goal.at.overflow_mul-s c).After-square-s).to) })

pub overflow_cast-s-2 : goal.overflow_cast-s-2
overflow_cast-s-2 c = natural_cast (span (goal.at.overflow_cast-s-2 c).After-square-s).b (held (goal.at.overflow_cast-s-2 c).After-square-s).1 (read_upper (held (goal.at.overflow_cast-s-2 c).After-square-s) (span (goal.at.overflow_cast-s-2 c).After-square-s))

pub overflow_mul-s-2 : goal.overflow_mul-s-2
overflow_mul-s-2 c =
    rw (read_upper (held (goal.at.overflow_mul-s-2 c).After-square-s) (span (goal.at.overflow_mul-s-2 c).After-square-s)) (record { fits = omega (arith, (span (goal.at.overflow_mul-s-2 c).After-square-s).to) })

-- the roots are below 2236068000
pub overflow_add-isqrt : goal.overflow_add-isqrt
overflow_add-isqrt c =
    let s = (goal.at.overflow_add-isqrt c).After-square-s in
    let h : c.isqrt-2.result + 1 ≤ 2236068000
    = root_most (rw (read_upper (held s) (span s)) at c.isqrt-2.ensures) (omega (arith, (span s).to)) in
    record { fits = omega (arith, h) }

pub natural-requires : goal.natural-requires
natural-requires c =
    let s = (goal.at.natural-requires c).After-square-s in
    let l : c.isqrt.result + 1 ≤ 2236068000
    = root_most (rw (read_lower (held s) (span s)) at c.isqrt.ensures) (omega (arith, (span s).order, (span s).to)) in
    let h : c.isqrt-2.result + 1 ≤ 2236068000
    = root_most (rw (read_upper (held s) (span s)) at c.isqrt-2.ensures) (omega (arith, (span s).to)) in
    (omega (arith, l), omega (arith, h))

pub returns : goal.returns
unfolding df_ends
returns c =
    let e = c.square-s.ensures in
    rw (
      c.natural.ensures,
      square_root_is (rw (to_z-of_z (held (goal.at.returns c).After-square-s).0, e) at c.isqrt.ensures),
      square_root_is
          (rw (to_z-of_z (held (goal.at.returns c).After-square-s).1, e) at c.isqrt-2.ensures),
    )
