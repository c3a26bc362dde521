-- `cs` is Cs for bare soil or with a layer; the bounds of layer, thickness and soil keep it within 64 bits.
use native.Mathlib.Omega.{arith}
use borrow.Author.{Tests.{eq-eqb, ne_eqb}}
use lib.Dec.{lit<}
use Rattle.interval.proofs.{Fits.{fits_below, fits_product}, Span.{span_point}, Rules.{lits}, NumeralSpans.{numeral_quotient_fits}}
use Rattle.case.specs.Bounds.{Layered}
use Rattle.working.specs.Ends.{derated, full, cs_ends}
use Rattle.working.proofs.{Layer.{not_bare, derated_most, full_bounds}}
use Rattle.working.proofs.cs.Goals as goal
use Rattle.working.proofs.cs.Goals.{Else-c-eq0}

-- past the test there is a layer
covered : (c : Else-c-eq0) → Layered c.args.c
covered c = not_bare c.requires c.if-c-eq0.false

pub returns-then-c-eq0 : goal.returns-then-c-eq0
unfolding cs_ends
returns-then-c-eq0 c = simp (eq-eqb c.args.c.layer 0 c.if-c-eq0.true) c.point.ensures

pub overflow_mul-derated : goal.overflow_mul-derated
overflow_mul-derated c = let l = covered (goal.at.overflow_mul-derated c).Else-c-eq0 in fits_product l.layer.high l.thick.high (lit< tt)

pub overflow_mul-derated-2 : goal.overflow_mul-derated-2
unfolding derated
overflow_mul-derated-2 c =
    fits_below {m = 6450000} (omega (arith, derated_most c.requires (covered (goal.at.overflow_mul-derated-2 c).Else-c-eq0))) (lit< tt)

pub overflow_add-derated : goal.overflow_add-derated
unfolding derated
overflow_add-derated c =
    fits_below (derated_most c.requires (covered (goal.at.overflow_add-derated c).Else-c-eq0)) (lit< tt)

pub point-requires-2 : goal.point-requires-2
unfolding derated
point-requires-2 c =
    omega (arith, derated_most c.requires (covered (goal.at.point-requires-2 c).Else-c-eq0))

pub overflow_mul-layer : goal.overflow_mul-layer
unfolding full
overflow_mul-layer c =
    fits_below (full_bounds c.requires (covered (goal.at.overflow_mul-layer c).Else-c-eq0)).high (lit< tt)

pub point-requires-3 : goal.point-requires-3
unfolding full
point-requires-3 c =
    omega (arith, (full_bounds c.requires (covered (goal.at.point-requires-3 c).Else-c-eq0)).high)

pub quotient-requires : goal.quotient-requires
unfolding derated full
quotient-requires c =
    let b = c.requires in
    let f = full_bounds b (covered (goal.at.quotient-requires c).Else-c-eq0) in
    let fits = numeral_quotient_fits {d = 1000000000} (lits tt)
    (span_point (derated c.args.c) {l = 0} (omega arith) (derated_most b (covered (goal.at.quotient-requires c).Else-c-eq0)))
    (span_point (full c.args.c) f.low f.high) in
    rw (c.point-3.ensures, c.point-2.ensures) (record { pos_bound = fits.0; scale_bound = fits.1 })

pub returns : goal.returns
unfolding cs_ends derated full
returns c =
    rw (ne_eqb c.args.c.layer 0 c.if-c-eq0.false) (cc)
