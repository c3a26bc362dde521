-- The ends of a case's voltages may be compared.
use Prim.Native.Nat.{ℕ, ◌^◌, ◌≤◌}
use mathlib.Core.{Path.{◌≡◌}, Bool.{true}, List.{[], ◌∷◌}}
use native.Mathlib.Nat.{le_trans}
use lib.{Dec.{lit≤}, IntN.{ℤ, pos}}
use borrow.Author.Tests.{le-leb}
use Rattle.interval.{specs.{declared.Interval.{Interval}, Span.{Span}}, proofs.{Span.{span_lower, span_upper}, Rules.{◌≼◌, Kept, lits}}}
use Rattle.interval.proofs.NumeralSpans.{numeral_product, numeral_quotient}
use Rattle.case.specs.{declared.Case.{Case}, Bounds.{Bounds}}
use Rattle.tolerable.{specs.Ends.{tolerable_ends, touch_ends, step_ends}, proofs.Spans.{top_span, time_span}}
use Rattle.mesh.specs.Ends.{mesh_ends}
use Rattle.mesh.proofs.DrivenWidths as M
use Rattle.mesh.proofs.FactorSpans as MF
use Rattle.step.specs.Ends.{step_voltage_ends}
use Rattle.step.proofs.Spans as S
use Rattle.step.proofs.FactorSpans as SF
use Rattle.margin.specs.Margin.{most_voltage, in_range, comparable}
use Rattle.margin.proofs.Voltages.{Natural, Voltages}

module _ {i : Interval} {l h w : ℕ} (low : ℕ) (k : Kept ((low ≼ l) ∷ (h ≼ most_voltage) ∷ [])) (s : Span i l h w) where
  lower_natural : Natural low i.lower
  lower_natural =
      record { n = s.a; is = span_lower s; from = le_trans (k.at 0) s.from; to = le_trans s.order (le_trans s.to (k.at 1)) }

  upper_natural : Natural low i.upper
  upper_natural =
      record { n = s.b; is = span_upper s; from = le_trans (k.at 0) (le_trans s.from s.order); to = le_trans s.to (k.at 1) }

module _ {c : Case} (b : Bounds c) where
  tolerable_span : (weight : ℕ) → weight ≤ 12 → Span (tolerable_ends c weight) 58000 106411112 246
  unfolding tolerable_ends
  tolerable_span weight h = numeral_quotient 50000 58000 106411112 245 (lits tt) (top_span b weight h) (time_span b)

  mesh_span : Span (mesh_ends c) 0 148411231984 148411300001
  unfolding mesh_ends
  mesh_span = numeral_product 10000000 0 148411231984 148411300000 (lits tt) (M.driven_span b) (MF.factor_span b)

  step_span : Span (step_voltage_ends c) 0 112101542400 104842
  unfolding step_voltage_ends
  step_span = numeral_product (10 ^ 7) 0 112101542400 104841 (lits tt) (S.driven_span b) (SF.factor_span b)

  pub mesh_voltages : Voltages (mesh_ends c).upper (touch_ends c).lower
  unfolding touch_ends
  mesh_voltages = record { v = upper_natural 0 (lits tt) mesh_span; t = lower_natural 1 (lits tt) (tolerable_span 3 (lit≤ tt)) }

  pub step_voltages : Voltages (step_voltage_ends c).upper (step_ends c).lower
  unfolding step_ends
  step_voltages = record { v = upper_natural 0 (lits tt) step_span; t = lower_natural 1 (lits tt) (tolerable_span 12 (lit≤ tt)) }

-- ---- such voltages may be compared

natural_in_range : {low : ℕ} {z : ℤ} → Natural low z → in_range (pos low) z ≡ true
unfolding in_range
natural_in_range {low} n = rw (n.is, le-leb low n.n n.from, le-leb n.n most_voltage n.to)

pub voltages_comparable : {voltage tolerable : ℤ} → Voltages voltage tolerable → comparable voltage tolerable ≡ true
unfolding comparable
voltages_comparable p = rw (natural_in_range p.v, natural_in_range p.t)
