-- §2.3: "A refusal .. is returned only on its condition." The refusals of each question exclude one another, so it refuses with one number
-- and place, and none of them holds where the question is answered. So a program that refuses everything fits no outcome.
use Rattle.tolerable.specs.declared.TouchAndStep.{TouchAndStep}
use Rattle.std.specs.Prelude.{ℕ}
use mathlib.Core.{Path.{◌≡◌}, Logic.{◌⊎◌}, List.{List}}
use Rattle.std.specs.Prelude.{ℤ}
use Rattle.interval.specs.declared.Interval.{Interval}
use Rattle.exact.specs.{Fraction.{Fraction}, Ends.{Ends}, Exact.{Exact}, Reported.{Scale}}
use Rattle.readings.specs.declared.Report.{Report}
use Rattle.case.specs.declared.{Case.{Case}, Form.{Form}}
use Rattle.row.specs.declared.Row.{Row}
use Rattle.working.specs.declared.Quantities.{Quantities}
use Rattle.claims.specs.Record.{RowOutcome, PairOutcome, TolerableOutcome, SizeOutcome}
use Rattle.claims.specs.{Workings.{WorkingOutcome}, Later.{HeadroomOutcome}, Carried.{CarryOutcome}, Releases.{ReleaseOutcome}}
use Rattle.claims.specs.Measured.{LogarithmOutcome, SoilOutcome, SplitOutcome}
use Rattle.std.specs.Prelude.{Some, None, Ok}
use Rattle.refusal.specs.{Refused.{refuse}}
use Rattle.staged.specs.declared.GridShare.{GridShare}

pub record OneAnswer (Refused : ℕ → ℕ → ℕ → Type 0) (Answered : Type 0) : Type 0 where
  pub one_refusal : {number line column number' line' column' : ℕ} → Refused number line column → Refused number' line' column'
      → (number ≡ number') × (line ≡ line') × (column ≡ column')
  pub not_both : {number line column : ℕ} → Refused number line column → ¬ Answered

pub record OneAnswers : Type 0 where
  pub row : (c : Case) → OneAnswer (λ n l k. RowOutcome c (refuse n l k)) ((r : Row) × RowOutcome c (Ok r))
  -- the factor, and the resistance
  pub ends : (c : Case) (x : Exact) (unit : Scale) (width : Ends → Fraction)
      → OneAnswer (λ n l k. PairOutcome c x unit width (refuse n l k)) ((i : Interval) × PairOutcome c x unit width (Ok i))
  pub size : (c : Case) → OneAnswer (λ n l k. SizeOutcome c (refuse n l k)) ((kcmil : ℕ) × SizeOutcome c (Ok kcmil))
  pub touch_and_step_lem : (c : Case) → OneAnswer (λ n l k. TolerableOutcome c (refuse n l k))
      ((limits : TouchAndStep) × TolerableOutcome c (Ok limits))
  pub working : (c : Case)
      → OneAnswer (λ n l k. WorkingOutcome c (refuse n l k)) ((w : Quantities) × WorkingOutcome c (Ok w))
  pub headroom : (c : Case) → OneAnswer (λ n l k. HeadroomOutcome c (refuse n l k))
      (((F : ℕ) × HeadroomOutcome c (Ok (Some F))) ⊎ HeadroomOutcome c (Ok None))
  pub logarithm : (p q : ℕ) → OneAnswer (λ n l k. LogarithmOutcome p q (refuse n l k))
      ((i : Interval) × LogarithmOutcome p q (Ok i))
  pub soil : (numbers : List ℕ) → OneAnswer (λ n l k. SoilOutcome numbers (refuse n l k))
      ((report : Report) × SoilOutcome numbers (Ok report))
  pub split : (s : List ℤ) → OneAnswer (λ n l k. SplitOutcome s (refuse n l k))
      ((g : GridShare) × SplitOutcome s (Ok g))
  pub carry : (form : Form) (s before after : List ℕ) → OneAnswer (λ n l k. CarryOutcome form s before after (refuse n l k))
      ((count : ℕ) × CarryOutcome form s before after (Ok count))
  pub release : (s licence : List ℕ) (before after : List ℤ)
      → OneAnswer (λ n l k. ReleaseOutcome s licence before after (refuse n l k))
      ((m : ℕ) × ReleaseOutcome s licence before after (Ok m))
