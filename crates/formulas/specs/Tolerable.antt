-- Tolerable touch and step voltage in volts. §4.5.
use Rattle.std.specs.Prelude.{cond, eqb}
use Rattle.exact.specs.{Fraction.{Fraction, whole, decimal, ◌+f◌, ◌−f◌, ◌·f◌, ◌÷f◌}, Exact.{Exact, exactly, ◌÷x◌}, Root.{root}}
use Rattle.case.specs.declared.Case.{Case}
use Rattle.formulas.specs.Lengths.{ρ}

module _ (c : Case) where
  -- ρs and hs of the surface layer
  unfoldable pub ρs : Fraction
  ρs = whole c.layer

  unfoldable pub hs : Fraction
  hs = decimal c.thick 3

  -- "Q is Cs·ρs = ρs − 0.09·(ρs − ρ)/(2·hs + 0.09); for bare soil Q is ρ."
  unfoldable pub Q : Fraction
  Q = cond (eqb c.layer 0) (ρ c) (ρs −f decimal 9 2 ·f (ρs −f ρ c) ÷f (whole 2 ·f hs +f decimal 9 2))

  -- "k 0.116 for 50 kg and 0.157 for 70 kg"
  unfoldable pub k : Fraction
  k = cond (eqb c.body 50) (decimal 116 3) (decimal 157 3)

  -- √t, t in seconds: "Tolerable voltages use shock"
  unfoldable pub root_time : Exact
  root_time = root 2 (exactly (decimal c.shock 3))

  -- "(1000 + 1.5·Q)·k/√t"
  unfoldable pub tolerable_touch : Exact
  tolerable_touch = exactly ((whole 1000 +f decimal 15 1 ·f Q) ·f k) ÷x root_time

  -- "(1000 + 6·Q)·k/√t"
  unfoldable pub tolerable_step : Exact
  tolerable_step = exactly ((whole 1000 +f whole 6 ·f Q) ·f k) ÷x root_time
