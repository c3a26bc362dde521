-- Resistivity in ohm metres, lengths in metres (§4.1), the effective number of conductors and Ki (§4.2).
use Rattle.std.specs.Prelude.{◌-◌, Bool, cond, eqb}
use Rattle.exact.specs.{Fraction.{Fraction, whole, decimal, ◌+f◌, ◌·f◌, ◌÷f◌}, Exact.{Exact, exactly, ◌+x◌, ◌·x◌, ◌÷x◌}, Root.{root}}
use Rattle.case.specs.declared.Case.{Case}

module _ (c : Case) where
  -- soil resistivity
  unfoldable pub ρ : Fraction
  ρ = whole c.soil

  -- distance between conductors, burial depth, conductor diameter
  unfoldable pub D : Fraction
  D = decimal c.space 3

  unfoldable pub h : Fraction
  h = decimal c.depth 3

  unfoldable pub d : Fraction
  d = decimal c.dia 4

  -- length of one rod
  unfoldable pub Lr : Fraction
  Lr = decimal c.rodlen 3

  -- "The sides are Lx = (across−1)·D and Ly = (along−1)·D."
  unfoldable pub Lx : Fraction
  Lx = whole (c.across - 1) ·f D

  unfoldable pub Ly : Fraction
  Ly = whole (c.along - 1) ·f D

  -- "Lc is across·Ly + along·Lx, the perimeter Lp is 2(Lx+Ly), the area is Lx·Ly."
  unfoldable pub Lc : Fraction
  Lc = whole c.across ·f Ly +f whole c.along ·f Lx

  unfoldable pub Lp : Fraction
  Lp = whole 2 ·f (Lx +f Ly)

  unfoldable pub area : Fraction
  area = Lx ·f Ly

  -- "Rod length LR = rods·Lr. LT = Lc + LR."
  unfoldable pub LR : Fraction
  LR = whole c.rods ·f Lr

  unfoldable pub LT : Fraction
  LT = Lc +f LR

  -- "Equal counts keep the square's definitions."
  abbrev pub equal_counts : Bool
  equal_counts = eqb c.across c.along

  unfoldable pub √area : Exact
  √area = root 2 (exactly area)

  -- "√area stands for s in the resistance"; s of a square is its side
  unfoldable pub s : Exact
  s = cond equal_counts (exactly Lx) √area

  -- "n is na·nb with na = 2·Lc/Lp and nb = √(Lp/(4·√area))"; n of a square is its count
  unfoldable pub na : Fraction
  na = whole 2 ·f Lc ÷f Lp

  unfoldable pub nb : Exact
  nb = root 2 (exactly Lp ÷x (exactly (whole 4) ·x √area))

  unfoldable pub n : Exact
  n = cond equal_counts (exactly (whole c.across)) (exactly na ·x nb)

  -- "Ki = 0.644 + 0.148·n"
  unfoldable pub Ki : Exact
  Ki = exactly (decimal 644 3) +x exactly (decimal 148 3) ·x n
