-- How far apart the two ends of a reported pair may be. §5.8.
use Rattle.exact.specs.{Fraction.{Fraction, decimal, ◌+f◌, ◌·f◌, ◌÷f◌}, Ends.{Ends}, Reported.{Scale, ten}}
use Rattle.case.specs.declared.Case.{Case}
use Rattle.formulas.specs.{Lengths.{ρ, LT, na}, Step.{LS}}

-- millivolts, micro-ohms, microamperes, and the billionths of the decrement factor
unfoldable pub m_v : Scale
m_v = ten 3

unfoldable pub μΩ : Scale
μΩ = ten 6

unfoldable pub μA : Scale
μA = ten 6

unfoldable pub billionths : Scale
billionths = ten 9

-- "Df has two ends in billionths, at most 1,000 apart."
unfoldable pub factor_width : Ends → Fraction
factor_width A = decimal 1000 9

-- "The two currents ... are at most 1/500,000 of the lower plus 2 microamperes apart."
unfoldable pub current_width : Ends → Fraction
current_width A = decimal 2 6 ·f A.lower +f decimal 2 6

-- "Tolerable voltages: at most 1/10,000 of the lower end plus 10 mV."
unfoldable pub tolerable_width : Ends → Fraction
tolerable_width A = decimal 1 4 ·f A.lower +f decimal 10 3

-- "Resistance: 1/10,000 of the lower end plus 2 micro-ohms."
unfoldable pub resistance_width : Ends → Fraction
resistance_width A = decimal 1 4 ·f A.lower +f decimal 2 6

-- "Ground potential rise: 1/2,000 of the lower end plus 10 mV."
unfoldable pub rise_width : Ends → Fraction
rise_width A = decimal 5 4 ·f A.lower +f decimal 10 3

-- Ki that the widths of the mesh and step voltages refer to, as a fraction: "the mesh and step widths use Ki worked with na in place of n"
unfoldable pub reference_ki : Case → Fraction
reference_ki c = decimal 644 3 +f decimal 148 3 ·f na c

-- "The mesh and step widths use the upper grid current": I is the reported pair, in amperes
module _ (c : Case) (I : Ends) where
  -- "mesh and step ends at most 1/100,000 of their reference voltage plus 10 mV", for mesh ρ·Ki·IG/LT
  unfoldable pub mesh_width : Fraction
  mesh_width = decimal 1 5 ·f (ρ c ·f reference_ki c ·f I.upper ÷f LT c) +f decimal 10 3

  -- for step ρ·Ki·IG/LS
  unfoldable pub step_width : Fraction
  step_width = decimal 1 5 ·f (ρ c ·f reference_ki c ·f I.upper ÷f LS c) +f decimal 10 3
