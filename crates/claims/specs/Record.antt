-- §6.1, §6.2: one case asked as a record: its checks, and every answer that the question for its row can give, each with its condition. The
-- conditions exclude one another (Answers.antt), so each answer is given exactly on its own.
use Rattle.std.specs.Prelude.{ℕ, suc, ◌<◌}
use mathlib.Core.{Path.{◌≡◌}, Bool.{Bool, true, false}}
use lib.{IntN.{nat_abs}, ListN.{get_or}}
use Rattle.interval.specs.declared.{Interval.{Interval}}
use Rattle.exact.specs.{Fraction.{Fraction}, Ends.{Ends}, Exact.{Exact}, Reported.{Scale, Reports}}
use Rattle.case.specs.{declared.Case.{Case}, Case.{values}, Columns.{columns, in_range}, Parts.{range_at, InRanges}, Bounds.{Bounds}}
use Rattle.formulas.specs.{Decrement.{Df}, Tolerable.{tolerable_touch, tolerable_step}, Width.{m_v, billionths, factor_width, tolerable_width}}
use Rattle.numbers.specs.{Number.{Number}, Formulas.{CaseNumbers}}
use Rattle.row.specs.{declared.Row.{Row}, Row.{numbers}}
use Rattle.hocsimbur.specs.{Asked.{SmallestSize}}
use Rattle.claims.specs.{Rules.{SurfaceAgrees, RodsAgree}, Demands.{OwnRow}}
use Rattle.std.specs.Prelude.{Result, Ok}
use Rattle.refusal.specs.{declared.Refused.{Refused}, Refused.{refuse}}
use Rattle.tolerable.specs.declared.TouchAndStep.{TouchAndStep}

-- the value of the name with index i, from 0, in the table of names is in its range
abbrev pub inside_at : Case → ℕ → Bool
inside_at c i = in_range (range_at columns i) (get_or (values c) i 0)

abbrev pub AllInside : Case → Type 0
AllInside c = InRanges columns (values c)

-- §2.2: "Within one number the leftmost column comes first"
pub record FirstOutside (c : Case) (i : ℕ) : Type 0 where
  pub within : i < 22
  pub outside : inside_at c i ≡ false
  pub before : (j : ℕ) → j < i → inside_at c j ≡ true

-- §6.1: "a refusal 5 or 6, whose line is 0 and whose column is the place in the table of names above"
pub data RecordRefused (c : Case) : ℕ → ℕ → ℕ → Type 0 where
  -- "value out of its range"
  out_of_range : {i : ℕ} → FirstOutside c i → RecordRefused c 5 0 (suc i)
  -- "layer and thick disagree (column of layer)"
  surface : AllInside c → ¬ SurfaceAgrees c → RecordRefused c 6 0 4
  -- "rods, rodlen, place disagree (column of rods)"; "for 6 layer comes before rods"
  rods : AllInside c → SurfaceAgrees c → ¬ RodsAgree c → RecordRefused c 6 0 18

-- every value is in its range, and those that must agree do; the ranges one by one are `Bounds`
pub record RecordSound (c : Case) : Type 0 where
  pub inside : AllInside c
  pub surface : SurfaceAgrees c
  pub rods : RodsAgree c
  pub bounds : Bounds c

-- ---- the answers

-- §6.1: "One case may also be asked as a record of 18 numbers; the answer is its row or a refusal 5 or 6, whose line is 0 and whose column
-- is the place in the table of names above."; the row has all of demand 3
pub data RowOutcome (c : Case) : Result Row Refused → Type 0 where
  refused : {number line column : ℕ} → RecordRefused c number line column → RowOutcome c (refuse number line column)
  row : {r : Row} → RecordSound c → OwnRow c (numbers r) 0 → RowOutcome c (Ok r)

-- §6.2: "Decrement factor (in thousandths), conductor size, tolerable touch, tolerable step and resistance may each be asked alone, from a
-- record, with the same checks."

-- two ends for an exact value, which is one number: the factor, or the resistance
pub data PairOutcome (c : Case) (x : Exact) (unit : Scale) (width : Ends → Fraction) : Result Interval Refused → Type 0 where
  refused : {number line column : ℕ} → RecordRefused c number line column → PairOutcome c x unit width (refuse number line column)
  ends : {i : Interval} → RecordSound c → Number x → Reports x unit width i → PairOutcome c x unit width (Ok i)

-- §6.2: "The two separate questions are merged into one that gives both pairs of ends from one root."
pub data TolerableOutcome (c : Case) : Result TouchAndStep Refused → Type 0 where
  refused : {number line column : ℕ} → RecordRefused c number line column → TolerableOutcome c (refuse number line column)
  ends : {limits : TouchAndStep} → RecordSound c → CaseNumbers c → Reports (tolerable_touch c) m_v tolerable_width limits.touch
      → Reports (tolerable_step c) m_v tolerable_width limits.step → TolerableOutcome c (Ok limits)

-- §4.9: "Conductor size is the smallest whole kcmil not below the product with the factor's upper end": for a pair of ends that reports the
-- factor
pub data SizeOutcome (c : Case) : Result ℕ Refused → Type 0 where
  refused : {number line column : ℕ} → RecordRefused c number line column → SizeOutcome c (refuse number line column)
  size : {kcmil : ℕ} (factor : Interval) → RecordSound c → Reports (Df c) billionths factor_width factor
      → SmallestSize c (nat_abs factor.upper) kcmil → SizeOutcome c (Ok kcmil)
