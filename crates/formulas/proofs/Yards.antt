-- §4.10: every yard of the list of yards computed by hand is right.
use Prim.Native.Nat.{ℕ, ◌*◌, ◌^◌, ◌<◌}
use mathlib.Core.{Path.{◌≡◌, refl, ap}, Bool.{Bool, ◌&&◌}, List.{[], ◌∷◌}}
use native.Mathlib.{Omega.{arith}, Nat.{zero-lt-suc}}
use lib.{IntN.{pos}, Dec.{T, leb, leb→le, lit≤}}
use mir.Facts.{and_yes}
use Rattle.whole.{specs.Every.{Every}, proofs.Choice.{pos≤}}
use Rattle.interval.{specs.Operations.{natural}, proofs.Rules.{◌≼◌, Kept, lits}}
use Rattle.exact.specs.{Fraction.{Fraction, whole, decimal, ◌−f◌, top}, Ends.{Ends, ◌÷e◌}, Exact.{Exact, exactly, ◌÷x◌, Holds}, Root.{root}}
use Rattle.exact.{specs.{Reported.{Scale, ten, over, reported, Reports}, Depth.{Consistent}}, proofs.Order.{refl≤}}
use Rattle.exact.proofs.{Holding.{holds_wider, holds_exactly, holds_quotient}, Roots.{holds_root}, Consistency.{consistent_exactly}}
use Rattle.exact.proofs.Quantity.{Quantity, quantity_root}
use Rattle.text.specs.Text.{same}
use Rattle.case.specs.{declared.{Case.{Case}}, Columns.{columns, in_range, name_index, named}}
use Rattle.case.specs.Check.{left_of, out_of_range, agree, disagreement, finding, case_finding, count_from, own_places, record_finding, judged_by}
use Rattle.case.{specs.{Check.{record_judged}, Bounds.{Bounds}}, proofs.{Bounds.{record_bounds}, Tests.{◌then◌}}}
use Rattle.formulas.specs.{Lengths.{ρ, D, h, d}, Current.{IG}, Size.{constants, Kf, smallest, duty, enough, size}}
use Rattle.formulas.specs.{Tolerable.{Q, k, root_time, tolerable_touch, tolerable_step}, Mesh.{G}}
use Rattle.formulas.specs.Width.{m_v, μΩ, μA, billionths, factor_width, current_width}
use Rattle.formulas.specs.Yards.{yard, sample, wet, rectangle, rodless, yards, Right, Worked.{conductor}}
use Rattle.formulas.proofs.{Positive.{millisecond}, Decrement.{consistent-Df}, Conductors.{quantity_n}}
use Rattle.formulas.proofs.Quantities.{quantity_IG}
use Rattle.formulas.proofs.Consistent.{consistent_touch, consistent_tolerable_step, quantity_resistance, consistent_step}
use Rattle.formulas.proofs.{Consistent.{consistent_mesh}, ReportedSize.{size_reported}}
use Rattle.formulas.proofs.Known.{Known, digits, at_most, inside, rounded, known_exactly, known_product, holds_known, inside_within}
use Rattle.formulas.proofs.{Known.{at_most_lem}, KnownFunctions.{tests}}
use Rattle.formulas.proofs.KnownFactor.{factor_3000_10, factor_1000_10, factor_500_10, factor_99_11, factor_100_11, factor_499_40}
use Rattle.formulas.proofs.KnownFactor.{factor_500_40}
use Rattle.formulas.proofs.SampleYard.{touch_sample, tolerable_step_sample, mesh_sample, step_sample, resistance_sample, touch_wet}
use Rattle.formulas.proofs.SampleYard.{tolerable_step_wet, mesh_wet, step_wet}
use Rattle.formulas.proofs.RectangleYard.{n_rectangle, mesh_rectangle, step_rectangle, resistance_rectangle, mesh_rodless}
use Rattle.formulas.proofs.RectangleYard.{step_rodless, resistance_rodless}
use Rattle.std.specs.Prelude.{Ok}

-- ---- a tolerable voltage, where the root of the time is a fraction

top_decimal : (m e : ℕ) → top (decimal m e) ≡ m
unfolding top decimal
top_decimal m e = omega arith

-- a pair holds q / √t where √t is r units, and the pair has q over r units inside
exact_root : (q : Fraction) (ms r : ℕ) (u : Scale) (R : Ends) → Kept ((1 ≼ ms) ∷ (1 ≼ r) ∷ []) → r ^ 2 * 1000 ≡ u.count ^ 2 * ms
    → T (inside (record { lower = q; upper = q } ÷e reported u (record { lower = pos r; upper = pos r })) R)
    → Holds R (exactly q ÷x root 2 (exactly (decimal ms 3)))
unfolding reported over decimal whole
exact_root q ms r u R k e w =
    let m = k.at 0 in
    let p : 0 < r = k.at 1 in
    let t : Quantity (root 2 (exactly (decimal ms 3))) = quantity_root 2 (omega arith) (millisecond m) in
    let v : u.count ^ 2 * top (decimal ms 3) ≡ u.count ^ 2 * ms = ap (λ t. u.count ^ 2 * t) (top_decimal ms 3) in
    holds_wider (inside_within _ R w)
    (holds_quotient (record { proper = refl≤ q }) (record { proper = refl≤ _ }) (consistent_exactly q) t.consistent
    (holds_exactly (record { low = refl≤ q; high = refl≤ q }))
    (holds_root 2 u r r (omega arith) (omega arith) (omega arith)
    (holds_exactly (record { low = refl≤ (decimal ms 3); high = refl≤ (decimal ms 3) })))
    (record { positive = record { lt = omega arith } })
    t.positive)

halves : Scale
halves = record { count = 2; positive = zero-lt-suc 1 }

-- ---- a pair that reports a value which is known

module _ (u : Scale) (width : Ends → Fraction) (a b : ℕ) where
  pair : Ends
  pair = reported u (natural a b)

  -- a value known within A
  report_test : Ends → Bool
  report_test A = leb a b && (inside A pair && at_most (pair.upper −f pair.lower) (width pair))

  reports_known : {x : Exact} {A : Ends} → Consistent x → Known x A → T (report_test A) → Reports x u width (natural a b)
  unfolding pair report_test natural
  reports_known {A = A} c k t =
      let h = and_yes (leb a b) _ t in
      let l = and_yes (inside A pair) _ h.1 in
      record {
        ordered = pos≤ (leb→le a b h.0);
        holds = holds_known c (rounded pair k l.0);
        narrow = record { apart = at_most_lem _ _ l.1 };
      }

-- ---- the size, by the factor in billionths

module _ (fault metal : ℕ) where
  abbrev at : ℕ → Case
  at ms = yard 400 70 ms fault 600 10 metal

  sized_3000 : {kcmil : ℕ} → size (at 3000) 1004411241 ≡ kcmil → size (at 3000) 1004412242 ≡ kcmil → Right (conductor (at 3000) kcmil)
  unfolding tests billionths
  sized_3000 =
      size_reported (at 3000) 1004411241 1004411242 (rounded (digits 9 1004411241 1004411242) (factor_3000_10 (at 3000)) tt).within

  sized_1000 : {kcmil : ℕ} → size (at 1000) 1013176107 ≡ kcmil → size (at 1000) 1013177108 ≡ kcmil → Right (conductor (at 1000) kcmil)
  unfolding tests billionths
  sized_1000 =
      size_reported (at 1000) 1013176107 1013176108 (rounded (digits 9 1013176107 1013176108) (factor_1000_10 (at 1000)) tt).within

-- ---- the claim

-- a yard within its ranges
bounds : (c : Case) → record_judged c ≡ Ok tt → Bounds c
bounds c h = record_bounds h

-- the yard of a factor or a current
abbrev timed : ℕ → ℕ → Case
timed ms xr = yard 400 70 ms 3180 600 xr 1

current_500_10 : Known (IG (timed 500 10)) (digits 9 1957957255297 1957957255302)
unfolding tests IG
current_500_10 = known_product (digits 9 1957957255297 1957957255302) (known_exactly _) (factor_500_10 (timed 500 10)) tt

-- what a yard's checks are made of, opened by name
checks : ℕ
unfolding same columns in_range name_index named left_of out_of_range agree disagreement finding case_finding count_from own_places record_finding
    judged_by record_judged
checks = 0

pub sound_sample : Bounds sample
unfolding checks
sound_sample = bounds sample refl

pub sound_wet : Bounds wet
unfolding checks
sound_wet = bounds wet refl

sound_rectangle : Bounds rectangle
unfolding checks
sound_rectangle = bounds rectangle refl

sound_rodless : Bounds rodless
unfolding checks
sound_rodless = bounds rodless refl

pub starred : Every Right yards
unfolding yards tests checks pair report_test halves size smallest enough duty Kf constants tolerable_touch tolerable_step root_time Q k ρ G D h
    d m_v μΩ μA billionths factor_width current_width
starred =
    (exact_root _ 1000 1 (ten 0) _ (lits tt) refl tt, exact_root _ 1000 1 (ten 0) _ (lits tt) refl tt)
    then (exact_root _ 250 1 halves _ (lits tt) refl tt, exact_root _ 250 1 halves _ (lits tt) refl tt)
    then (exact_root _ 1000 1 (ten 0) _ (lits tt) refl tt, exact_root _ 1000 1 (ten 0) _ (lits tt) refl tt)
    then sized_3000 20000 1 {kcmil = 244} refl refl
    then sized_3000 20000 4 {kcmil = 364} refl refl
    then sized_3000 20000 8 {kcmil = 640} refl refl
    then sized_1000 1000 1 {kcmil = 8} refl refl
    then sized_1000 1001 1 {kcmil = 8} refl refl
    then sized_1000 986 1 {kcmil = 7} refl refl
    then sized_1000 987 1 {kcmil = 8} refl refl
    then sized_1000 1000 5 {kcmil = 13} refl refl
    then reports_known billionths factor_width 1004411240 1004411242 (consistent-Df (bounds (at 20000 1 3000) refl))
    (factor_3000_10 (at 20000 1 3000)) tt
    then reports_known billionths factor_width 1013176106 1013176108 (consistent-Df (bounds (at 1000 1 1000) refl))
    (factor_1000_10 (at 1000 1 1000)) tt
    then reports_known billionths factor_width 1137716322 1137716324 (consistent-Df (bounds (timed 99 11) refl)) (factor_99_11 (timed 99 11))
    tt
    then reports_known billionths factor_width 1136431379 1136431382 (consistent-Df (bounds (timed 100 11) refl))
    (factor_100_11 (timed 100 11)) tt
    then reports_known billionths factor_width 1101187707 1101187709 (consistent-Df (bounds (timed 499 40) refl))
    (factor_499_40 (timed 499 40)) tt
    then reports_known billionths factor_width 1100994761 1100994763 (consistent-Df (bounds (timed 500 40) refl))
    (factor_500_40 (timed 500 40)) tt
    then reports_known μA current_width 1957957253 1957957256 (quantity_IG (bounds (timed 500 10) refl)).consistent current_500_10 tt
    then record { to = record { le = lit≤ tt }; fro = record { le = lit≤ tt } }
    then (
      holds_known (consistent_touch sound_sample) touch_sample,
      holds_known (consistent_tolerable_step sound_sample)
          tolerable_step_sample,
    )
    then holds_known (consistent_mesh sound_sample) mesh_sample
    then holds_known (consistent_step sound_sample) step_sample
    then holds_known (quantity_resistance sound_sample).consistent resistance_sample
    then (holds_known (consistent_touch sound_wet) touch_wet, holds_known (consistent_tolerable_step sound_wet) tolerable_step_wet)
    then holds_known (consistent_mesh sound_wet) mesh_wet
    then holds_known (consistent_step sound_wet) step_wet
    then holds_known (quantity_n sound_rectangle).consistent (rounded (digits 9 11344040332 11344040333) (n_rectangle 38 10000 1) tt)
    then holds_known (consistent_mesh sound_rectangle) mesh_rectangle
    then holds_known (consistent_step sound_rectangle) (step_rectangle sound_rectangle)
    then holds_known (quantity_resistance sound_rectangle).consistent resistance_rectangle
    then holds_known (consistent_mesh sound_rodless) (mesh_rodless sound_rodless)
    then holds_known (consistent_step sound_rodless) (step_rodless sound_rodless)
    then holds_known (quantity_resistance sound_rodless).consistent resistance_rodless
    then tt
