-- What is asked of one case as a record. §6.1, and §6.2: "Decrement factor (in thousandths), conductor size, tolerable touch, tolerable
-- step and resistance may each be asked alone, from a record, with the same checks."
use Rattle.std.specs.Prelude.{ℕ, ◌<◌, ◌≡◌, nat_abs}
use Rattle.interval.specs.declared.{Interval.{Interval}}
use Rattle.exact.specs.{Fraction.{Fraction, whole}, Ends.{Ends}, Exact.{Exact, exactly, Above, AtOrBelow}, Reported.{Scale, Reports}}
use Rattle.exact.specs.Answered.{RightPair}
use Rattle.case.specs.{declared.Case.{Case}, Check.{record_judged, record_answer}}
use Rattle.formulas.specs.{Decrement.{Df}, Size.{required, size}, Tolerable.{tolerable_touch, tolerable_step}}
use Rattle.formulas.specs.Width.{m_v, μΩ, billionths, factor_width, tolerable_width, resistance_width}
use Rattle.formulas.specs.Resistance as R
use Rattle.tolerable.specs.Ends.{touch_and_step}
use Rattle.decision.specs.declared.Verdict.{Verdict}
use Rattle.row.specs.{declared.Row.{Row}, Row.{RightRow}, Ends.{row_of}}
use Rattle.std.specs.Prelude.{Result, Ok, Err}
use Rattle.refusal.specs.{declared.Refused.{Refused}, Refused.{refuse}}
use Rattle.tolerable.specs.declared.TouchAndStep.{TouchAndStep}

-- a pair, or refusal 5 or 6 with line 0
unfoldable pub pair_answer : (Case → Interval) → Case → Result Interval Refused
pair_answer ends c = record_answer (Ok (ends c)) (record_judged c)

-- the answer by the name of its ends, and what holds of them. Two wrong programs: one that refuses every record breaks `answer`; one whose
-- ends run from 0 to the largest number, by that name, breaks `right`.
pub record PairAnswered (x : Exact) (u : Scale) (width : Ends → Fraction) (ends : Case → Interval) (c : Case) (r : Result Interval Refused) : Type 0 where
  pub answer : r ≡ pair_answer ends c
  pub right : RightPair x u width r

-- the resistance's ends are those in the case's row
unfoldable pub resistance_in_row : Case → Interval
resistance_in_row c = (row_of c).resistance

abbrev pub ResistanceAnswered : Case → Result Interval Refused → Type 0
ResistanceAnswered c = PairAnswered (R.resistance c) μΩ resistance_width resistance_in_row c

-- ---- §6.2: "for one case the factor's ends are the same in the row, in the factor asked alone and in the size asked alone"

-- the one name of the factor's ends: those in the case's row
unfoldable pub factor_in_row : Case → Interval
factor_in_row c = (row_of c).factor

abbrev pub FactorAnswered : Case → Result Interval Refused → Type 0
FactorAnswered c = PairAnswered (Df c) billionths factor_width factor_in_row c

-- the size, by the upper end of those
unfoldable pub size_by_row : Case → ℕ
size_by_row c = size c (nat_abs (factor_in_row c).upper)

-- that size, or refusal 5 or 6 with line 0
unfoldable pub size_answer : Case → Result ℕ Refused
size_answer c = record_answer (Ok (size_by_row c)) (record_judged c)

-- "the smallest whole kcmil not below I·Kf·√t", by exact values, with the factor in billionths
pub record SmallestSize (c : Case) (factor kcmil : ℕ) : Type 0 where
  pub not_below : AtOrBelow (required c factor) (exactly (whole kcmil))
  pub smallest : (m : ℕ) → m < kcmil → Above (required c factor) (exactly (whole m))

-- a pair reports the factor, and a size is the smallest "with the factor's upper end"
pub record SizedBy (c : Case) (factor : Interval) (kcmil : ℕ) : Type 0 where
  pub factor_right : Reports (Df c) billionths factor_width factor
  pub size_right : SmallestSize c (nat_abs factor.upper) kcmil

unfoldable pub RightSize : Case → Result ℕ Refused → Type 0
RightSize c (Ok kcmil) = SizedBy c (factor_in_row c) kcmil
RightSize c (Err why) = Unit {0}

-- the answer by the names of the factor's ends and the size, and what holds of them. Two wrong programs: one that refuses every record
-- breaks `answer`; one that sizes by the lower end, by that name, breaks `right`.
pub record SizeAnswered (c : Case) (r : Result ℕ Refused) : Type 0 where
  pub answer : r ≡ size_answer c
  pub right : RightSize c r

-- ---- §6.2: "The two separate questions are merged into one that gives both pairs of ends from one root."

-- two pairs, touch first, or refusal 5 or 6 with line 0
unfoldable pub tolerable_answer : Case → Result TouchAndStep Refused
tolerable_answer c = record_answer (Ok (touch_and_step c)) (record_judged c)

-- "Its four numbers, touch first, are those in the case's row", and each pair reports its exact value
pub record RightVoltages (c : Case) (touch step : Interval) : Type 0 where
  pub touch_in_row : touch ≡ (row_of c).tolerable_touch
  pub step_in_row : step ≡ (row_of c).tolerable_step
  pub touch_right : Reports (tolerable_touch c) m_v tolerable_width touch
  pub step_right : Reports (tolerable_step c) m_v tolerable_width step

unfoldable pub RightTolerable : Case → Result TouchAndStep Refused → Type 0
RightTolerable c (Ok limits) = RightVoltages c limits.touch limits.step
RightTolerable c (Err why) = Unit {0}

-- the answer by the names of its ends, and what holds of them. Two wrong programs: one that gives step first breaks `answer`; one that
-- weighs both as touch, by those names, breaks `right`.
pub record TolerableAnswered (c : Case) (r : Result TouchAndStep Refused) : Type 0 where
  pub answer : r ≡ tolerable_answer c
  pub right : RightTolerable c r

-- a row, or refusal 5 or 6 with line 0
unfoldable pub row_answer : Case → Result Row Refused
row_answer c = record_answer (Ok (row_of c)) (record_judged c)

-- a row is right; nothing is required of a refusal here
unfoldable pub RightAnswer : Case → Result Row Refused → Type 0
RightAnswer c (Ok r) = RightRow c r
RightAnswer c (Err why) = Unit {0}

-- the answer by the name of its row, and what holds of it. Two wrong programs: one that answers the row of another case breaks
-- `answer`; one whose verdict is decided by the potential rise, by that name, breaks `right`.
pub record RowAnswered (c : Case) (r : Result Row Refused) : Type 0 where
  pub answer : r ≡ row_answer c
  pub right : RightAnswer c r

-- an answer is a row with this verdict
pub record AnsweredWith (v : Verdict) (r : Result Row Refused) : Type 0 where
  pub row : Row
  pub is : r ≡ Ok row
  pub verdict : (row).verdict ≡ v
