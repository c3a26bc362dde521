-- `first_safe` tries yard after yard: the search of proofs/Trying.antt. A break out of both loops is a return from within the inner one.
use mathlib.Core.{Path.{◌≡◌, sym, ap, ◌∙◌}, Bool.{true}}
use native.Mathlib.Omega.{arith}
use Rattle.yards.specs.Yards.{fits, yard, is_safe}
use Rattle.yards.proofs.Trying.{lines_next, lines_skipped, lines_end, rods_next, rods_end, trying_start, trying_few}
use Rattle.yards.proofs.{Trying.{trying_end, trying_found, trying_next}, Sound.{yard_bounds}}
use Rattle.yards.proofs.search.first_safe.Goals as goal
use Rattle.yards.proofs.search.first_safe.Goals.{Else-not-fits}

pub counts-init : goal.counts-init
counts-init c = (omega arith, omega arith, trying_start _ _)

pub fits-requires : goal.fits-requires
fits-requires c = omega arith

pub overflow_step-lines : goal.overflow_step-lines
overflow_step-lines c = omega arith

pub counts-smaller-then-not-fits : goal.counts-smaller-then-not-fits
counts-smaller-then-not-fits c = omega arith

pub counts-preserved-then-not-fits : goal.counts-preserved-then-not-fits
counts-preserved-then-not-fits c = (
  omega arith,
  omega arith,
  rw (lines_skipped c.args.c c.args.side c.counts.lines (omega arith)
      (sym c.fits.ensures ∙ c.if-not-fits.true)) at c.counts.invariant.2,
)

pub loop-k-init : goal.loop-k-init
loop-k-init c =
    (omega arith, rw (lines_next c.args.c c.args.side c.counts.lines (omega arith)) at c.counts.invariant.2)

pub overflow_add-tried : goal.overflow_add-tried
overflow_add-tried c = omega (arith, trying_few c.loop-k.invariant.1)

pub overflow_mul-rods : goal.overflow_mul-rods
overflow_mul-rods c = omega arith

pub yard-requires : goal.yard-requires
yard-requires c = omega arith

-- this count of lines is not skipped
fitting : (c : Else-not-fits)
    → fits c.args.side c.counts.lines ≡ true
fitting c = sym c.fits.ensures ∙ c.if-not-fits.false

pub is_safe-requires : goal.is_safe-requires
is_safe-requires c =
    rw c.yard.ensures (yard_bounds _ _ _ _ c.requires (omega arith) (omega arith) (fitting (goal.at.is_safe-requires c).Else-not-fits) (omega arith))

pub overflow_step-k : goal.overflow_step-k
overflow_step-k c = omega arith

pub loop-k-smaller : goal.loop-k-smaller
loop-k-smaller c = omega arith

pub loop-k-preserved : goal.loop-k-preserved
loop-k-preserved c = (
  omega arith,
  trying_next c.loop-k.invariant.1 (rods_next _ _ _ _ _ (omega arith) (fitting (goal.at.loop-k-preserved c).Else-not-fits))
      (sym (c.is_safe.ensures ∙ ap is_safe c.yard.ensures) ∙ c.if-is_safe.false),
)

pub overflow_step-lines-in-counts : goal.overflow_step-lines-in-counts
overflow_step-lines-in-counts c = omega arith

pub counts-smaller : goal.counts-smaller
counts-smaller c = omega arith

pub counts-preserved : goal.counts-preserved
counts-preserved c = (omega arith, omega arith, rw (rods_end _ _ _ _ _ c.loop-k-test.false) at c.loop-k.invariant.1)

pub returns-after-counts : goal.returns-after-counts
returns-after-counts c =
    trying_end c.counts.invariant.2 (lines_end c.args.c c.args.side c.counts.lines (omega arith))

pub returns-then-is_safe : goal.returns-then-is_safe
unfolding yard
returns-then-is_safe c =
    trying_found c.loop-k.invariant.1 (rods_next _ _ _ _ _ (omega arith) (fitting (goal.at.returns-then-is_safe c).Else-not-fits))
    (sym (c.is_safe.ensures ∙ ap is_safe c.yard.ensures) ∙ c.if-is_safe.true)
