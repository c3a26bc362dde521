-- The derating factor of the surface layer. §4.5, §6.4 (IEEE Std 80-2013, equation 27).
use Rattle.std.specs.Prelude.{cond, eqb}
use Rattle.exact.specs.Fraction.{Fraction, whole, decimal, ◌+f◌, ◌−f◌, ◌·f◌, ◌÷f◌}
use Rattle.case.specs.declared.Case.{Case}
use Rattle.formulas.specs.{Lengths.{ρ}, Tolerable.{ρs, hs}}

module _ (c : Case) where
  -- "Cs = 1 − 0.09(1 − ρ/ρs)/(2hs + 0.09)"; 1 for bare soil, which nothing derates
  unfoldable pub Cs : Fraction
  Cs =
      cond (eqb c.layer 0) (whole 1)
      (whole 1 −f decimal 9 2 ·f (whole 1 −f ρ c ÷f ρs c) ÷f (whole 2 ·f hs c +f decimal 9 2))

  -- the resistivity that Cs derates: the layer's, for bare soil the soil's
  unfoldable pub surface : Fraction
  surface = cond (eqb c.layer 0) (ρ c) (ρs c)
