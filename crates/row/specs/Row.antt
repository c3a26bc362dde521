-- What a right row is. §3.1, §3.2, §5.7, §5.8. The eight pairs of ends are the free part of a row: the rules bind each by exactness and
-- width. All else is an equation.
use Rattle.std.specs.Prelude.{ℕ}
use mathlib.Core.{Path.{◌≡◌, refl}, Logic.{◌⊎◌}, List.{List, [], ◌∷◌}}
use lib.{IntN.{ℤ, pos, nat_abs}, ListN.{length}}
use Rattle.exact.specs.{Exact.{Above, AtOrBelow}, Reported.{reported, Reports}}
use Rattle.case.specs.declared.Case.{Case}
use Rattle.formulas.specs.{Decrement.{Df}, Current.{IG}}
use Rattle.formulas.specs.Width.{m_v, μΩ, μA, billionths, factor_width, current_width, tolerable_width, resistance_width, rise_width, mesh_width}
use Rattle.formulas.specs.Width.{step_width}
use Rattle.formulas.specs.Size
use Rattle.formulas.specs.Tolerable
use Rattle.formulas.specs.Mesh
use Rattle.formulas.specs.Step
use Rattle.formulas.specs.Resistance
use Rattle.decision.specs.{declared.Verdict.{TheVariants.{Safe, Unsafe}, Verdict}, Verdict.{verdict, verdict_number}}
use Rattle.row.specs.declared.Row.{Row}

-- the verdict of a row's ends
unfoldable pub verdict_of : Row → Verdict
verdict_of r = verdict r.tolerable_touch r.tolerable_step r.mesh r.step

pub record RightRow (c : Case) (r : Row) : Type 0 where
  pub station : r.station ≡ pos c.station
  pub season : r.season ≡ pos c.season
  pub verdict : r.verdict ≡ verdict_of r
  -- "with the factor's upper end"
  pub size : r.size ≡ pos (Size.size c (nat_abs r.factor.upper))
  pub current : Reports (IG c) μA current_width r.current
  pub factor : Reports (Df c) billionths factor_width r.factor
  pub tolerable_touch_lem : Reports (Tolerable.tolerable_touch c) m_v tolerable_width r.tolerable_touch
  pub tolerable_step_lem : Reports (Tolerable.tolerable_step c) m_v tolerable_width r.tolerable_step
  pub mesh : Reports (Mesh.mesh c) m_v (λ A. mesh_width c (reported μA r.current)) r.mesh
  pub step : Reports (Step.step c) m_v (λ A. step_width c (reported μA r.current)) r.step
  pub resistance : Reports (Resistance.resistance c) μΩ resistance_width r.resistance
  pub rise : Reports (Resistance.potential_rise c) m_v rise_width r.rise
  -- safe and unsafe are true of the exact values
  pub safe_true : verdict_of r ≡ Safe
      → AtOrBelow (Mesh.mesh c) (Tolerable.tolerable_touch c) × AtOrBelow (Step.step c) (Tolerable.tolerable_step c)
  pub unsafe_true : verdict_of r ≡ Unsafe
      → Above (Mesh.mesh c) (Tolerable.tolerable_touch c) ⊎ Above (Step.step c) (Tolerable.tolerable_step c)

-- "A row has 20 numbers"
abbrev pub row_length : ℕ
row_length = 20

-- station, season, verdict by its number, size, then the lower and upper ends of the eight pairs; "after the grid current's lower end stand
-- its upper end and the factor's two ends"
unfoldable pub numbers : Row → List ℤ
numbers r =
    r.station ∷ r.season ∷ pos (verdict_number r.verdict) ∷ r.size
    ∷ r.current.lower ∷ r.current.upper
    ∷ r.factor.lower ∷ r.factor.upper
    ∷ r.tolerable_touch.lower ∷ r.tolerable_touch.upper
    ∷ r.tolerable_step.lower ∷ r.tolerable_step.upper
    ∷ r.mesh.lower ∷ r.mesh.upper
    ∷ r.step.lower ∷ r.step.upper
    ∷ r.resistance.lower ∷ r.resistance.upper
    ∷ r.rise.lower ∷ r.rise.upper
    ∷ []

pub row_length_lem : (r : Row) → length (numbers r) ≡ row_length
unfolding numbers
row_length_lem r = refl
