-- Resistance of the grid in ohms and ground potential rise in volts. §4.8.
use Rattle.exact.specs.{Fraction.{whole}, Exact.{Exact, exactly, ◌+x◌, ◌·x◌, ◌÷x◌}, Root.{root}}
use Rattle.case.specs.declared.Case.{Case}
use Rattle.formulas.specs.{Lengths.{ρ, h, s, LT}, Current.{IG}}

unfoldable pub √20 : Exact
√20 = root 2 (exactly (whole 20))

abbrev one : Exact
one = exactly (whole 1)

module _ (c : Case) where
  -- "ρ·(1/LT + (1 + 1/(1 + h·√20/s))/(√20·s))"
  unfoldable pub resistance : Exact
  resistance =
      exactly (ρ c)
      ·x (one ÷x exactly (LT c)
      +x (one +x one ÷x (one +x exactly (h c) ·x √20 ÷x s c)) ÷x (s c ·x √20))

  -- "Ground potential rise = IG times resistance."
  unfoldable pub potential_rise : Exact
  potential_rise = IG c ·x resistance
