-- The answer to a record, from what its checks answer.
use Prim.Native.Nat.{ℕ}
use lib.IntN.{nat_abs}
use mathlib.Core.Path.{◌≡◌, refl, sym, ◌∙◌}
use Rattle.interval.specs.declared.Interval.{Interval}
use Rattle.exact.specs.{Fraction.{Fraction}, Ends.{Ends}, Exact.{Exact}, Reported.{Scale, Reports}, Answered.{RightPair}}
use Rattle.text.proofs.Clash.{clash}
use Rattle.case.specs.{declared.{Case.{Case}}, Check.{record_judged, record_answer}}
use Rattle.case.{specs.Bounds.{Bounds}, proofs.{Bounds.{record_bounds}, BoundsSound.{bounds_sound}}}
use Rattle.formulas.specs.{Decrement.{Df}, Resistance.{resistance}, Width.{μΩ, billionths, factor_width, resistance_width}}
use Rattle.formulas.proofs.Size.{duty_pos, size_not_below, size_smallest}
use Rattle.tolerable.specs.{declared.TouchAndStep.{TouchAndStep}, Ends.{touch_ends, step_ends, touch_and_step}}
use Rattle.decision.specs.declared.Verdict.{Verdict}
use Rattle.decrement.proofs.Right.{factor_reports}
use Rattle.current.proofs.GridCurrent.{upper_bounds}
use Rattle.row.specs.{declared.Row.{Row}, Ends.{case_verdict, row_of}}
use Rattle.row.proofs.Right.{tolerable_touch_reports, tolerable_step_reports, resistance_reports, row_verdict, right_row}
use Rattle.hocsimbur.specs.Asked.{pair_answer, PairAnswered, factor_in_row, resistance_in_row, size_by_row, size_answer, SmallestSize}
use Rattle.hocsimbur.specs.Asked.{RightSize, SizeAnswered, tolerable_answer, RightTolerable, TolerableAnswered, row_answer, RightAnswer}
use Rattle.hocsimbur.specs.Asked.{RowAnswered}
use Rattle.std.specs.Prelude.{Result, Ok, Err}
use Rattle.refusal.specs.{declared.Refused.{Refused}, Refused.{refuse}}

-- ---- what holds of the ends and the size by their names

module _ {c : Case} (b : Bounds c) where
  pub factor_right : Reports (Df c) billionths factor_width (factor_in_row c)
  unfolding factor_in_row row_of
  factor_right = factor_reports b

  pub resistance_right : Reports (resistance c) μΩ resistance_width (resistance_in_row c)
  unfolding resistance_in_row row_of
  resistance_right = resistance_reports b

  pub smallest_size : SmallestSize c (nat_abs (factor_in_row c).upper) (size_by_row c)
  unfolding size_by_row factor_in_row row_of
  smallest_size =
      let d = duty_pos b (upper_bounds b) in
      record { not_below = size_not_below c _ d; smallest = size_smallest c _ d }

-- ---- the answers

module _ (c : Case) {j : Result (Unit {0}) Refused} (judged : j ≡ record_judged c) where
  pub sound_bounds : j ≡ Ok tt → Bounds c
  sound_bounds sound = record_bounds (sym judged ∙ sound)

  pub asked_answer : {A : Type 0} (asked : Result A Refused) → j ≡ Ok tt → asked ≡ record_answer asked (record_judged c)
  unfolding record_answer
  asked_answer asked sound = rw (← judged, sound)

  pub refused_answer : {A : Type 0} {why : Refused} (asked : Result A Refused) → j ≡ Err why → Err why ≡ record_answer asked (record_judged c)
  unfolding record_answer
  refused_answer asked fault = rw (← judged, fault)

  -- a question for two ends
  module _ {x : Exact} {u : Scale} {width : Ends → Fraction} {ends : Case → Interval} where
    pub pair_told : {i : Interval} → (Bounds c → Reports x u width (ends c)) → j ≡ Ok tt → i ≡ ends c
        → PairAnswered x u width ends c (Ok i)
    unfolding pair_answer RightPair
    pair_told reports sound e =
        record { answer = rw e (asked_answer (Ok (ends c)) sound); right = rw e (reports (sound_bounds sound)) }

    pub pair_refused : {why : Refused} → j ≡ Err why → PairAnswered x u width ends c (Err why)
    unfolding pair_answer RightPair
    pair_refused fault = record { answer = refused_answer (Ok (ends c)) fault; right = tt }

  -- the question for the size
  pub size_told : {n : ℕ} → j ≡ Ok tt → n ≡ size_by_row c → SizeAnswered c (Ok n)
  unfolding size_answer RightSize
  size_told sound e =
      let b = sound_bounds sound in
      rw e
      (record {
        answer = asked_answer (Ok (size_by_row c)) sound;
        right = record { factor_right = factor_right b; size_right = smallest_size b };
      })

  pub size_refused : {why : Refused} → j ≡ Err why → SizeAnswered c (Err why)
  unfolding size_answer RightSize
  size_refused fault = record { answer = refused_answer (Ok (size_by_row c)) fault; right = tt }

  -- the question for both tolerable voltages
  pub voltages_told : {v : TouchAndStep} → j ≡ Ok tt → v ≡ touch_and_step c → TolerableAnswered c (Ok v)
  unfolding tolerable_answer RightTolerable touch_and_step row_of
  voltages_told sound e =
      let b = sound_bounds sound in
      rw e
      (record {
        answer = asked_answer (Ok (touch_and_step c)) sound;
        right =
            record {
              touch_in_row = refl;
              step_in_row = refl;
              touch_right = tolerable_touch_reports b;
              step_right = tolerable_step_reports b;
            };
      })

  pub voltages_refused : {why : Refused} → j ≡ Err why → TolerableAnswered c (Err why)
  unfolding tolerable_answer RightTolerable
  voltages_refused fault =
      record { answer = refused_answer (Ok (touch_and_step c)) fault; right = tt }

  -- the question for a row
  pub row_told : {r : Row} → j ≡ Ok tt → r ≡ row_of c → RowAnswered c (Ok r)
  unfolding row_answer RightAnswer
  row_told sound e =
      record { answer = rw e (asked_answer (Ok (row_of c)) sound); right = rw e (right_row (sound_bounds sound)) }

  pub row_refused : {why : Refused} → j ≡ Err why → RowAnswered c (Err why)
  unfolding row_answer RightAnswer
  row_refused fault = record { answer = refused_answer (Ok (row_of c)) fault; right = tt }

-- ---- what the answer for a row says of its record

pub row_sound : (c : Case) {r : Row} → Ok r ≡ row_answer c → (record_judged c ≡ Ok tt) × (r ≡ row_of c)
unfolding row_answer record_answer
row_sound c {r} a = go (record_judged c) a
  where
    go : (j : Result (Unit {0}) Refused) → Ok r ≡ record_answer (Ok (row_of c)) j → (j ≡ Ok tt) × (r ≡ row_of c)
    go (Ok sound) e = (refl, cc)
    go (Err why) e = clash cc

-- a case answered with a row is within its bounds, and the verdict is its own
pub row_says : {c : Case} {r : Row} {v : Verdict} → RowAnswered c (Ok r) → r.verdict ≡ v → Bounds c × (case_verdict c ≡ v)
row_says {c} h e = let t = row_sound c h.answer in (record_bounds t.0, rw (t.1, row_verdict c) at e)

-- a sound case is answered with its row, and a case within its bounds is sound
pub sound_answered : {c : Case} {r : Result Row Refused} → record_judged c ≡ Ok tt → RowAnswered c r → r ≡ Ok (row_of c)
unfolding row_answer record_answer
sound_answered e a = a.answer ∙ rw e

pub bounds_answered : {c : Case} {r : Result Row Refused} → Bounds c → RowAnswered c r → r ≡ Ok (row_of c)
bounds_answered b a = sound_answered (bounds_sound b) a
