-- The verdicts of the sample sheet, §3.3: "7,1,unsafe,16" and "7,2,safe,16". The formulas of its two lines are known at numbers, a reported
-- pair holds the same number and is narrow, and the voltages lie further apart than the widths: so every right row has these verdicts.
use lib.{ListN.{length}, Dec.{T}, IntN.{ℤ, pos}, Signed.{◌≤ℤ◌, ◌<ℤ◌}}
use Rattle.case.specs.{declared.Case.{Case}, Bounds.{Bounds}}
use Rattle.decision.specs.{Verdict.{verdict_number}, declared.Verdict.{Verdict, TheVariants.{Safe, Unsafe, Undecided}}}
use Rattle.decision.proofs.Verdicts.{ends_safe}
use Rattle.row.specs.{Ends.{row_of}, declared.Row.{Row}, Row.{verdict_of, RightRow}}
use Rattle.sheet.specs.{declared.Answer.{Answer, TheVariants.{Rows}}, Table.{Answered}, Examples.{sample as sheet_sample}}
use Rattle.claims.specs.Words.{case_at, verdict_at}
use Rattle.claims.proofs.{Outcomes.{rows_answer}, RowNumbers.{verdict_is}, Sheets.{row_of_lem}, RulesKept.{sample_sheet}}
use Rattle.claims.proofs.VerdictNumbers.{number_unsafe}
use Prim.Native.Nat.{ℕ, ◌≤◌}
use mathlib.Core.{Path.{◌≡◌, refl, ap, subst, ◌∙◌}, List.{List}, Logic.{inl}}
use native.Mathlib.Omega.{arith}
use Rattle.interval.specs.declared.Interval.{Interval}
use Rattle.whole.proofs.Signed.{halves_le, lt_halves}
use Rattle.exact.specs.{Fraction.{Fraction, ◌≤f◌, whole, decimal, ◌+f◌, ◌·f◌, ◌÷f◌}, Ends.{Ends}, Exact.{Exact, Holds}}
use Rattle.exact.{specs.Reported.{reported, Reports}, proofs.{Order.{refl≤, trans≤}, Sums.{mono+}, Products.{mul_left≤}, Quotients.{div≤}}}
use Rattle.formulas.specs.{Lengths.{ρ, LT}, Current.{IG}, Step.{LS}}
use Rattle.formulas.specs.{Width.{m_v, μA, current_width, tolerable_width, reference_ki, mesh_width, step_width}, Yards.{sample, wet}}
use Rattle.formulas.proofs.{Positive.{decimal_nonneg}, Quantities.{quantity_IG}}
use Rattle.formulas.proofs.Consistent.{consistent_touch, consistent_tolerable_step, consistent_step, consistent_mesh}
use Rattle.formulas.proofs.{Known.{digits, at_most, at_most_lem, less_than_lem, holds_known}, KnownFunctions.{tests}, KnownGrid.{lengths, current}}
use Rattle.formulas.proofs.SampleYard.{touch_sample, mesh_sample, touch_wet, tolerable_step_wet, mesh_wet, step_wet}
use Rattle.formulas.proofs.Yards.{sound_sample, sound_wet}
use Rattle.numbers.{specs.Number.{Narrows}, proofs.{Voltages.{case_numbers}, Reports.{lower_at_most, upper_near, reported_apart}}}

-- ---- every width is at most one volt

-- every width is a part of something, and a little
width_rises : (m e n f : ℕ) {p q : Fraction} → p ≤f q → decimal m e ·f p +f decimal n f ≤f decimal m e ·f q +f decimal n f
width_rises m e n f h = mono+ (mul_left≤ (decimal_nonneg m e) h) (refl≤ (decimal n f))

tolerable_volt : {x : Exact} {i : Interval} {B : Ends} → Narrows x → Holds B x → Reports x m_v tolerable_width i
    → T (at_most (decimal 1 4 ·f B.upper +f decimal 10 3) (whole 1)) → tolerable_width (reported m_v i) ≤f whole 1
unfolding tolerable_width
tolerable_volt n h r t = trans≤ (width_rises 1 4 10 3 (lower_at_most n r h)) (at_most_lem _ _ t)

-- the width of a mesh or step voltage with 2000 A, of ρ·Ki and of LT or LS
most : Fraction → Fraction → Fraction
most q l = decimal 1 5 ·f (q ·f whole 2000 ÷f l) +f decimal 10 3

-- a pair that holds the grid current, in amperes: that of both lines
abbrev amperes : Ends
amperes = digits 12 1957957255297800 1957957255301616

module _ {c : Case} (b : Bounds c) (h : Holds amperes (IG c)) {r : Row} (right : RightRow c r) where
  current_most : (reported μA r.current).upper ≤f whole 2000
  unfolding tests current_width
  current_most =
      let n = (case_numbers b).current.narrows in
      trans≤ (upper_near n right.current h (width_rises 2 6 2 6 (lower_at_most n right.current h))).near (at_most_lem _ (whole 2000) tt)

  module _ (s : T (at_most (whole 0) (ρ c ·f reference_ki c))) where
    reference_most : (l : Fraction)
        → ρ c ·f reference_ki c ·f (reported μA r.current).upper ÷f l ≤f ρ c ·f reference_ki c ·f whole 2000 ÷f l
    reference_most l = div≤ l (mul_left≤ (at_most_lem _ _ s) current_most)

    mesh_volt : T (at_most (most (ρ c ·f reference_ki c) (LT c)) (whole 1)) → mesh_width c (reported μA r.current) ≤f whole 1
    unfolding mesh_width most
    mesh_volt t = trans≤ (width_rises 1 5 10 3 (reference_most (LT c))) (at_most_lem _ _ t)

    step_volt : T (at_most (most (ρ c ·f reference_ki c) (LS c)) (whole 1)) → step_width c (reported μA r.current) ≤f whole 1
    unfolding step_width most
    step_volt t = trans≤ (width_rises 1 5 10 3 (reference_most (LS c))) (at_most_lem _ _ t)

-- ---- season 1 is unsafe

unsafe_verdict : (v : Verdict) → pos (verdict_number v) ≡ pos 2 → v ≡ Unsafe
unfolding verdict_number
unsafe_verdict Safe e = let z : ◌≡◌ {A = ℕ} 1 2 = cc in absurd (omega arith)
unsafe_verdict Unsafe e = refl
unsafe_verdict Undecided e = let z : ◌≡◌ {A = ℕ} 3 2 = cc in absurd (omega arith)

module _ {r : Row} (right : RightRow sample r) where
  touch_below_mesh : r.tolerable_touch.upper <ℤ r.mesh.lower
  unfolding tests lengths most reference_ki
  touch_below_mesh =
      let numbers = case_numbers sound_sample in
      let t = holds_known (consistent_touch sound_sample) touch_sample in
      let i = holds_known (quantity_IG sound_sample).consistent (current 1 400 11 11 0 0 0) in
      reported_apart numbers.tolerable_touch_lem.narrows numbers.mesh.narrows right.tolerable_touch_lem right.mesh t
      (holds_known (consistent_mesh sound_sample) mesh_sample)
      (tolerable_volt numbers.tolerable_touch_lem.narrows t right.tolerable_touch_lem tt) (mesh_volt sound_sample i right tt tt)
      (less_than_lem _ _ tt)

  pub dry_unsafe : r.verdict ≡ Unsafe
  unfolding verdict_of
  dry_unsafe =
      right.verdict
      ∙ unsafe_verdict _
      ((number_unsafe _ _ _ _ right.tolerable_touch_lem.ordered right.tolerable_step_lem.ordered right.mesh.ordered
      right.step.ordered).1
      (inl touch_below_mesh))

-- ---- season 2 is safe

weaken : {a b : ℤ} → a <ℤ b → a ≤ℤ b
weaken {a} {b} h = halves_le a b (omega (arith, lt_halves h))

module _ {r : Row} (right : RightRow wet r) where
  pub wet_safe : r.verdict ≡ Safe
  unfolding verdict_of tests lengths most reference_ki
  wet_safe =
      let numbers = case_numbers sound_wet in
      let touch = holds_known (consistent_touch sound_wet) touch_wet in
      let limit = holds_known (consistent_tolerable_step sound_wet) tolerable_step_wet in
      let i = holds_known (quantity_IG sound_wet).consistent (current 2 100 11 11 0 0 0) in
      right.verdict
      ∙ ends_safe _ _ _ _
      (weaken
      (reported_apart numbers.mesh.narrows numbers.tolerable_touch_lem.narrows right.mesh right.tolerable_touch_lem
      (holds_known (consistent_mesh sound_wet) mesh_wet) touch (mesh_volt sound_wet i right tt tt)
      (tolerable_volt numbers.tolerable_touch_lem.narrows touch right.tolerable_touch_lem tt) (less_than_lem _ _ tt)))
      (weaken
      (reported_apart numbers.step.narrows numbers.tolerable_step_lem.narrows right.step right.tolerable_step_lem
      (holds_known (consistent_step sound_wet) step_wet) limit (step_volt sound_wet i right tt tt)
      (tolerable_volt numbers.tolerable_step_lem.narrows limit right.tolerable_step_lem tt) (less_than_lem _ _ tt)))

-- ---- in a table

module _ {before after : List ℤ} (h : Answered sheet_sample before after (Rows 2)) where
  dry_number : verdict_at after 0 ≡ pos 2
  unfolding verdict_number
  dry_number =
      let row = row_of_lem h 0 (omega arith) in
      verdict_is after 0 (row_of (case_at sheet_sample 0)) row.is
      ∙ ap (λ v. pos (verdict_number v)) (dry_unsafe (subst (λ (c : Case). RightRow c (row_of (case_at sheet_sample 0))) sample_sheet.dry
      row.right))

  wet_number : verdict_at after 1 ≡ pos 1
  unfolding verdict_number
  wet_number =
      let row = row_of_lem h 1 (omega arith) in
      verdict_is after 1 (row_of (case_at sheet_sample 1)) row.is
      ∙ ap (λ v. pos (verdict_number v)) (wet_safe (subst (λ (c : Case). RightRow c (row_of (case_at sheet_sample 1))) sample_sheet.wet
      row.right))

pub sample_verdicts : {before after : List ℤ} {r : Answer} → Answered sheet_sample before after r → 40 ≤ length before
    → (r ≡ Rows 2) × (verdict_at after 0 ≡ pos 2) × (verdict_at after 1 ≡ pos 1)
sample_verdicts {before} {after} {r} h room =
    let e : r ≡ Rows 2 = h.answer_is ∙ rows_answer sheet_sample (length before) (sample_sheet.breaks_none, omega arith) in
    (e, dry_number (rw e at h), wet_number (rw e at h))
