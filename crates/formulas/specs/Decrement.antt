-- The decrement factor. §4.3 (IEEE Std 80-2013, equation 84).
use Rattle.exact.specs.{Fraction.{Fraction, whole, decimal, ◌·f◌}, Exact.{Exact, exactly, ◌+x◌, ◌−x◌, ◌·x◌, ◌÷x◌, minus}, Root.{root}}
use Rattle.exact.specs.{Exponential.{exp}, Pi.{π}}
use Rattle.case.specs.declared.Case.{Case}

module _ (c : Case) where
  -- "Ta = xr/(2π·hz)", in seconds
  unfoldable pub Ta : Exact
  Ta = exactly (whole c.xr) ÷x (exactly (whole 2) ·x π ·x exactly (whole c.hz))

  -- "tf the clear time", in seconds
  unfoldable pub tf : Fraction
  tf = decimal c.clear 3

  -- "Df is √(1 + (Ta/tf)(1 − e^(−2tf/Ta)))"
  unfoldable pub Df : Exact
  Df = root 2 (exactly (whole 1) +x Ta ÷x exactly tf ·x (exactly (whole 1) −x exp (minus (exactly (whole 2 ·f tf) ÷x Ta))))
