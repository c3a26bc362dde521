-- §6.1: the checks of one case as a record, in the specification's words.
use Prim.Native.Nat.{ℕ, zero, suc, ◌+◌, ◌≤◌, ◌<◌}
use mathlib.Core.{Path.{◌≡◌, refl, sym, ◌∙◌}, Bool.{Bool, true, false, cond, ◌&&◌}, Logic.{◌⊎◌, inl, inr}, List.{List, [], ◌∷◌}}
use native.Mathlib.Omega.{arith}
use lib.{Dec.{eqb, leb, eqb-suc-zero}, ListN.{length, get_or}}
use borrow.Author.Tests.{le-leb}
use Rattle.text.{specs.Text.{same}, proofs.Clash.{clash}}
use Rattle.case.specs.{declared.{Case.{Case}}, Case.{values}}
use Rattle.case.specs.Columns.{Form, columns, in_range, name_index, named, name_count_lem}
use Rattle.case.specs.Check.{left_of, out_of_range, agree, disagreement, finding, case_finding, count_from, own_places, record_finding, judged_by}
use Rattle.case.{specs.{Check.{record_judged, record_answer}, Parts.{range_at, InRanges}, Bounds.{Bounds}}, proofs.Agreement.{disagreement_is}}
use Rattle.case.proofs.Bounds.{record_bounds}
use Rattle.case.specs.declared.Finding.TheVariants as found
use Rattle.interval.specs.declared.{Interval.{Interval}}
use Rattle.exact.specs.{Fraction.{Fraction}, Ends.{Ends}, Exact.{Exact}, Reported.{Scale, Reports}}
use Rattle.formulas.specs.{Decrement.{Df}, Resistance.{resistance}, Width.{μΩ, billionths, factor_width, resistance_width}}
use Rattle.tolerable.specs.Ends.{touch_and_step}
use Rattle.row.{specs.Ends.{row_of}, proofs.Right.{tolerable_touch_reports, tolerable_step_reports}}
use Rattle.numbers.{specs.Number.{Number}, proofs.Voltages.{case_numbers}}
use Rattle.hocsimbur.specs.Asked.{pair_answer, factor_in_row, resistance_in_row, size_by_row, size_answer, tolerable_answer, row_answer}
use Rattle.hocsimbur.specs.Asked.{FactorAnswered, SizeAnswered, TolerableAnswered, ResistanceAnswered, RowAnswered}
use Rattle.hocsimbur.proofs.Answers.{factor_right, resistance_right, smallest_size}
use Rattle.claims.specs.Record as claim
use Rattle.claims.specs.Rules.{SurfaceAgrees, RodsAgree}
use Rattle.claims.specs.Record.{RecordRefused, RecordSound, RowOutcome, PairOutcome, TolerableOutcome, SizeOutcome}
use Rattle.claims.proofs.RowNumbers as table
use Rattle.std.specs.Prelude.{Result, Ok, Err}
use Rattle.refusal.specs.{declared.Refused.{Refused}, Refused.{refuse}}
use Rattle.row.specs.declared.Row.{Row}
use Rattle.tolerable.specs.declared.TouchAndStep.{TouchAndStep}

-- ---- the leftmost value out of its range, where the columns are j, j + 1, ..

data First (form : Form) (v : List ℕ) (j o : ℕ) : Type 0 where
  none : o ≡ 0 → InRanges form v → First form v j o
  some : (i : ℕ) → o ≡ j + i → i < length form → in_range (range_at form i) (get_or v i 0) ≡ false
      → ((m : ℕ) → m < i → in_range (range_at form m) (get_or v m 0) ≡ true) → First form v j o

left_first : (j o : ℕ) → (o ≡ 0) ⊎ (j ≤ o) → left_of j o ≡ j
unfolding left_of
left_first j o (inl e) = rw e
left_first j o (inr h) = go (eqb o 0)
  where
    go : (b : Bool) → cond b j (cond (leb j o) j o) ≡ j
    go true = refl
    go false = rw (le-leb j o h)

right_of : {form : Form} {v : List ℕ} {j o : ℕ} → First form v (suc j) o → (o ≡ 0) ⊎ (j ≤ o)
right_of (none e r) = inl e
right_of (some i e l f b) = inr (omega arith)

first : (form : Form) (v : List ℕ) (j : ℕ) → length v ≡ length form → First form v j (out_of_range form (count_from j (length form)) v)
unfolding out_of_range count_from range_at
first [] v j n = none refl (record { each = λ k l. absurd (omega arith) })
first (k ∷ ks) [] j n = absurd (omega arith)
first (k ∷ ks) (x ∷ v) j n = go (in_range k.range x) refl (first ks v (suc j) (omega arith))
  where
    go : {rest : ℕ} (b : Bool) → in_range k.range x ≡ b → First ks v (suc j) rest → First (k ∷ ks) (x ∷ v) j (cond b rest (left_of j rest))
    go {rest} false e f = some 0 (left_first j rest (right_of f) ∙ omega arith) (omega arith) e (λ m l. absurd (omega arith))
    go true e (none p r) = none p (record { each = each })
      where
        each : (i : ℕ) → i < suc (length ks) → in_range (range_at (k ∷ ks) i) (get_or (x ∷ v) i 0) ≡ true
        each zero l = e
        each (suc i) l = r.each i (omega arith)
    go true e (some i p l f b) = some (suc i) (omega arith) (omega arith) f before
      where
        before : (m : ℕ) → m < suc i → in_range (range_at (k ∷ ks) m) (get_or (x ∷ v) m 0) ≡ true
        before zero h = e
        before (suc m) h = b m (omega arith)

-- ---- values that must agree

abbrev Agree : ℕ → ℕ → Type 0
Agree a b = ((a ≡ 0) × (b ≡ 0)) ⊎ ((1 ≤ a) × (1 ≤ b))

agree_yes : (a b : ℕ) → agree a b ≡ true → Agree a b
unfolding agree
agree_yes zero zero h = inl (refl, refl)
agree_yes zero (suc b) h = let z : ◌≡◌ {A = ℕ} 0 1 = cc (eqb-suc-zero b) in absurd (omega arith)
agree_yes (suc a) zero h = let z : ◌≡◌ {A = ℕ} 0 1 = cc (rw (eqb-suc-zero a) at h) in absurd (omega arith)
agree_yes (suc a) (suc b) h = inr (omega arith, omega arith)

agree_no : (a b : ℕ) → agree a b ≡ false → ¬ Agree a b
unfolding agree
agree_no zero zero h t = clash cc
agree_no zero (suc b) h (inl t) = omega (arith, t.1)
agree_no zero (suc b) h (inr t) = omega (arith, t.0)
agree_no (suc a) zero h (inl t) = omega (arith, t.0)
agree_no (suc a) zero h (inr t) = omega (arith, t.1)
agree_no (suc a) (suc b) h t = let z : ◌≡◌ {A = ℕ} 0 1 = cc (rw (eqb-suc-zero a, eqb-suc-zero b) at h) in omega arith

rods_agree_lem : (c : Case) → Agree c.rods c.rodlen → Agree c.rods c.place → RodsAgree c
rods_agree_lem c (inl t) (inl u) = inl (t.0, t.1, u.1)
rods_agree_lem c (inl t) (inr u) = absurd (omega (arith, t.0, u.0))
rods_agree_lem c (inr t) (inl u) = absurd (omega (arith, t.0, u.0))
rods_agree_lem c (inr t) (inr u) = inr (t.0, t.1, u.1)

agrees_length : (c : Case) → RodsAgree c → Agree c.rods c.rodlen
agrees_length c (inl t) = inl (t.0, t.1)
agrees_length c (inr t) = inr (t.0, t.1)

agrees_place : (c : Case) → RodsAgree c → Agree c.rods c.place
agrees_place c (inl t) = inl (t.0, t.2)
agrees_place c (inr t) = inr (t.0, t.2)

-- ---- the judgement of a record

pub data Checked (c : Case) : Result (Unit {0}) Refused → Type 0 where
  refused : {n l k : ℕ} → RecordRefused c n l k → Checked c (refuse n l k)
  sound : claim.AllInside c → SurfaceAgrees c → RodsAgree c → Checked c (Ok tt)

module _ (c : Case) where
  agreeing : claim.AllInside c → Checked c (judged_by (disagreement columns own_places (values c)))
  unfolding judged_by own_places count_from named name_index columns same
  agreeing r =
      rw (disagreement_is own_places c)
      (go (agree c.layer c.thick) refl (agree c.rods c.rodlen) refl (agree c.rods c.place) refl)
    where
      go : (a : Bool) → agree c.layer c.thick ≡ a → (b : Bool) → agree c.rods c.rodlen ≡ b → (d : Bool)
          → agree c.rods c.place ≡ d
          → Checked c (judged_by (cond a (cond (b && d) found.Sound (found.Disagreement 18)) (found.Disagreement 4)))
      go false e b f d g = refused (claim.surface r (agree_no _ _ e))
      go true e false f d g = refused (claim.rods r (agree_yes _ _ e) (λ t. agree_no _ _ f (agrees_length c t)))
      go true e true f false g = refused (claim.rods r (agree_yes _ _ e) (λ t. agree_no _ _ g (agrees_place c t)))
      go true e true f true g = sound r (agree_yes _ _ e) (rods_agree_lem c (agree_yes _ _ f) (agree_yes _ _ g))

  pub checked : Checked c (record_judged c)
  unfolding record_judged record_finding case_finding finding judged_by own_places
  checked = go (out_of_range columns own_places (values c)) (first columns (values c) 1 (sym name_count_lem))
    where
      go : (o : ℕ) → First columns (values c) 1 o
          → Checked c (judged_by (cond (eqb o 0) (disagreement columns own_places (values c)) (found.OutOfRange o)))
      go o (none e r) = rw e (agreeing r)
      go o (some i e l f b) =
          let p : o ≡ suc i = omega arith in
          rw (p, eqb-suc-zero i) (refused (claim.out_of_range {i = i}
          (record { within = omega (arith, name_count_lem); outside = f; before = b })))

-- ---- the questions

pub record_sound : {c : Case} → record_judged c ≡ Ok tt → claim.AllInside c → SurfaceAgrees c → RodsAgree c → RecordSound c
record_sound e i s t = record { inside = i; surface = s; rods = t; bounds = record_bounds e }

-- an answer by the checks of the record: what follows of a refusal, and of a sound record
pub by_checks : {A : Type 0} (P : Result A Refused → Type 0) (told : Result A Refused) (c : Case)
    → ((n l k : ℕ) → RecordRefused c n l k → P (refuse n l k)) → (RecordSound c → P told) → P (record_answer told (record_judged c))
unfolding record_answer
by_checks P told c broken answered = go (record_judged c) refl (checked c)
  where
    go : (j : Result (Unit {0}) Refused) → record_judged c ≡ j → Checked c j → P (record_answer told j)
    go (Err why) e (refused h) = broken _ _ _ h
    go (Ok u) e (sound i s t) = answered (record_sound e i s t)

pub row_outcome : {c : Case} {r : Result Row Refused} → RowAnswered c r → RowOutcome c r
unfolding row_answer
row_outcome {c} a =
    rw a.answer
    (by_checks (RowOutcome c) (Ok (row_of c)) c (λ n l k h. claim.refused h)
    (λ s. claim.row s (table.row_alone s.bounds)))

-- a question for two ends, whose named ends report the value of every case within its bounds
pair_outcome : {x : Exact} {u : Scale} {width : Ends → Fraction} (ends : Case → Interval) {c : Case} {r : Result Interval Refused}
    → (Bounds c → Number x) → (Bounds c → Reports x u width (ends c)) → r ≡ pair_answer ends c → PairOutcome c x u width r
unfolding pair_answer
pair_outcome {x} {u} {width} ends {c} number right e =
    rw e
    (by_checks (PairOutcome c x u width) (Ok (ends c)) c (λ n l k h. claim.refused h)
    (λ s. claim.ends s (number s.bounds) (right s.bounds)))

pub factor_outcome : {c : Case} {r : Result Interval Refused} → FactorAnswered c r → PairOutcome c (Df c) billionths factor_width r
factor_outcome a = pair_outcome factor_in_row (λ b. (case_numbers b).factor) factor_right a.answer

pub resistance_outcome : {c : Case} {r : Result Interval Refused} → ResistanceAnswered c r → PairOutcome c (resistance c) μΩ resistance_width r
resistance_outcome a = pair_outcome resistance_in_row (λ b. (case_numbers b).resistance) resistance_right a.answer

pub tolerable_outcome : {c : Case} {r : Result TouchAndStep Refused} → TolerableAnswered c r → TolerableOutcome c r
unfolding tolerable_answer touch_and_step
tolerable_outcome {c} a =
    rw a.answer
    (by_checks (TolerableOutcome c) (Ok (touch_and_step c)) c (λ n l k h. claim.refused h)
    (λ s. claim.ends s (case_numbers s.bounds) (tolerable_touch_reports s.bounds) (tolerable_step_reports s.bounds)))

pub size_outcome : {c : Case} {r : Result ℕ Refused} → SizeAnswered c r → SizeOutcome c r
unfolding size_answer
size_outcome {c} a =
    rw a.answer
    (by_checks (SizeOutcome c) (Ok (size_by_row c)) c (λ n l k h. claim.refused h)
    (λ s. claim.size (factor_in_row c) s (factor_right s.bounds) (smallest_size s.bounds)))
