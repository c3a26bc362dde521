-- The ends of what depends on n include the exact values' ends. Each line follows its formula's line.
use Prim.Native.Nat.{ℕ, ◌+◌, ◌*◌, ◌<◌}
use mathlib.Core.{Path.{◌≡◌, refl}, Bool.{false}}
use native.Mathlib.{Omega.{arith}, Nat.{le_trans}}
use lib.Dec.{eqb, lit≤}
use Rattle.interval.{specs.{declared.Interval.{Interval}, Operations.{natural, scaled_of}, Span.{Span}}, proofs.Span.{span_divisor}}
use Rattle.exact.specs.{Fraction.{whole, ◌·f◌, top}, Exact.{exactly, ◌−x◌, ◌·x◌, ◌÷x◌, minus}, Root.{root}, Pi.{π}, Logarithm.{ln}}
use Rattle.exact.{specs.{Exponential.{exp}, Depth.{work_depth}, Reported.{ten}}, proofs.Consistency.{consistent_difference}}
use Rattle.exact.proofs.{Logarithm.{ln_exactly, consistent_ln}, Computed.{within_ln_two}}
use Rattle.exact.proofs.Quantity.{quantity_π, quantity_product, quantity_quotient}
use Rattle.enclosure.{specs.Enclosure.{Encloses}, proofs.{Basics.{encloses_whole}, Sums.{encloses_difference, encloses_times}}}
use Rattle.enclosure.proofs.{Products.{encloses_product}, Quotients.{encloses_quotient}, Roots.{encloses_root_of}, Constants.{π_encloses}}
use Rattle.logarithm.{specs.Ends.{ln_pair}, proofs.Pairs.{ln_pair_encloses, ln_over_encloses}}
use Rattle.exponential.proofs.Encloses.{close_power_encloses}
use Rattle.case.specs.{declared.Case.{Case}, Bounds.{Bounds}}
use Rattle.formulas.{specs.{Lengths.{n}, Mesh.{inner_weight}}, proofs.Conductors.{by_both, quantity_n}}
use Rattle.formulas.proofs.Quantities.{one, two, twice_n, quantity_odd, quantity_line_root, consistent_inner, consistent_half_exponent}
use Rattle.effective_number.{specs.Number.{n_ends}, proofs.{NumberSpans.{n_span}, NumberEnclosed.{counts, n_encloses}}}
use Rattle.conductors.specs.Weights.{eight, odd_ends, spread_ends, inner_exponent, root_of, inner_ends, ln2_ends, half_exponent}
use Rattle.conductors.specs.Weights.{half_power_ends}
use Rattle.conductors.proofs.{WeightSpans.{twice_span, odd_span}, LineRoots.{root_known, line_root_span}}
use Rattle.conductors.proofs.WeightWidths.{exponent_span, half_exponent_span}

-- 4m² is a whole number
squares_top : (m : ℕ) → top (whole 4 ·f whole m ·f whole m) ≡ 4 * (m * m)
unfolding top whole ◌·f◌
squares_top m = omega arith

squares_den : (m : ℕ) → (whole 4 ·f whole m ·f whole m).den ≡ 1
unfolding whole ◌·f◌
squares_den m = refl

-- ln 2
ln2_encloses : Encloses (ln (exactly (whole 2))) (ten 9) ln2_ends
unfolding ln2_ends natural
ln2_encloses = record { within = rw (ln_exactly (whole 2) work_depth) within_ln_two }

module _ {c : Case} (b : Bounds c) where
  N : Interval
  N = n_ends c.across c.along

  number : Span N 20000000 250000000 2
  unfolding N
  number = n_span (counts b)

  number_encloses : Encloses (n c) (ten 7) N
  unfolding N
  number_encloses = n_encloses b

  -- ---- ln(8/(π(2n−1)))

  odd_encloses : Encloses (π ·x (exactly (whole 2) ·x n c −x exactly (whole 1))) (ten 12) (odd_ends N)
  unfolding odd_ends ten
  odd_encloses =
      encloses_product (ten 12) 10000 refl quantity_π.consistent (quantity_odd b).consistent π_encloses
      (encloses_difference (twice_n b).consistent one.consistent (encloses_times 2 (quantity_n b).consistent number_encloses)
      (encloses_whole 1 (ten 7) refl))

  pub spread_encloses : Encloses (ln (exactly (whole 8) ÷x (π ·x (exactly (whole 2) ·x n c −x exactly (whole 1))))) (ten 9)
      (spread_ends (n_ends c.across c.along))
  unfolding spread_ends N ten
  spread_encloses =
      let s = odd_span number in
      let q = quantity_product quantity_π (quantity_odd b) in
      let above : eight < s.a = le_trans (lit≤ tt) s.from in
      rw s.is
      (ln_over_encloses 8 (ten 12) (lit≤ tt) above s.order q.consistent q.positive (rw s.is at odd_encloses))

  -- ---- the inner weight

  root_encloses : Encloses (root c.across (exactly (whole 4 ·f whole c.across ·f whole c.across))) (ten 9)
      (natural (root_of c.across) (root_of c.across + 1))
  unfolding ten
  root_encloses =
      let m = c.across in
      let r = root_of m in
      let k = root_known b.across in
      encloses_root_of m (whole 4 ·f whole m ·f whole m) (ten 9) r (r + 1) 1000 (omega (arith, b.across.low)) refl
      (rw (squares_top m, squares_den m) (omega (arith, k.low))) (rw (squares_top m, squares_den m) (omega (arith, k.high)))

  twice_encloses : Encloses (exactly (whole 2) ·x n c) (ten 7) (scaled_of N 2)
  twice_encloses = encloses_times 2 (quantity_n b).consistent number_encloses

  log_encloses : Encloses (ln (exactly (whole 2) ·x n c)) (ten 9) (ln_pair (scaled_of N 2) 10000000)
  unfolding ten
  log_encloses =
      let s = twice_span number in
      rw s.is
      (ln_pair_encloses (ten 7) (le_trans (lit≤ tt) s.from) s.order (twice_n b).consistent (rw s.is at twice_encloses))

  exponent_encloses : Encloses (exactly (whole 2) ÷x n c ·x ln (exactly (whole 2) ·x n c)) (ten 9) (inner_exponent N)
  unfolding inner_exponent ten
  exponent_encloses =
      let q = quantity_n b in
      encloses_product (ten 9) 1000000000 refl (quantity_quotient two q).consistent
      (consistent_ln (twice_n b).positive (twice_n b).consistent)
      (encloses_quotient (ten 9) 1000000000 refl (span_divisor (lit≤ tt) number).0 two.consistent q.consistent
      (encloses_whole 2 (ten 7) refl)
      number_encloses)
      log_encloses

  pub inner_encloses : Encloses (inner_weight c) (ten 9) (inner_ends c.across c.along (n_ends c.across c.along))
  unfolding inner_weight inner_ends N ten
  inner_encloses =
      by_both (λ x i. Encloses x (ten 9) i) (eqb c.across c.along)
      (λ e.
      encloses_quotient (ten 9) 1000000000 refl (span_divisor (lit≤ tt) (line_root_span b.across)).0 one.consistent
      (quantity_line_root b).consistent (encloses_whole 1 (ten 9) refl) root_encloses)
      (λ e. close_power_encloses (lit≤ tt) (consistent_inner b) (exponent_span (counts b) e) exponent_encloses)

  -- ---- 0.5^(n−2)

  pub half_encloses : eqb c.across c.along ≡ false
      → Encloses (exp (minus ((n c −x exactly (whole 2)) ·x ln (exactly (whole 2))))) (ten 9) (half_power_ends (n_ends c.across c.along))
  unfolding half_power_ends half_exponent ten
  half_encloses e =
      let q = quantity_n b in
      close_power_encloses (lit≤ tt) (consistent_half_exponent b) (half_exponent_span (counts b) e)
      (encloses_product (ten 9) 10000000 refl (consistent_difference q.consistent two.consistent)
      (consistent_ln two.positive two.consistent)
      (encloses_difference q.consistent two.consistent (n_encloses b) (encloses_whole 2 (ten 7) refl)) ln2_encloses)
