-- Mesh voltage in volts. §4.6.
use Rattle.std.specs.Prelude.{cond, eqb}
use Rattle.exact.specs.{Fraction.{Fraction, whole, decimal, ◌+f◌, ◌−f◌, ◌·f◌, ◌÷f◌}, Exact.{Exact, exactly, ◌+x◌, ◌−x◌, ◌·x◌, ◌÷x◌, minus}}
use Rattle.exact.specs.{Root.{root}, Logarithm.{ln}, Exponential.{exp}, Pi.{π}}
use Rattle.case.specs.declared.Case.{Case}
use Rattle.formulas.specs.{Lengths.{ρ, D, h, d, Lr, Lx, Ly, Lc, LR, LT, equal_counts, n, Ki}, Current.{IG}}

module _ (c : Case) where
  -- "G = D²/(16hd) + (D+2h)²/(8Dd) − h/(4d)"
  unfoldable pub G : Fraction
  G =
      D c ·f D c ÷f (whole 16 ·f h c ·f d c)
      +f (D c +f whole 2 ·f h c) ·f (D c +f whole 2 ·f h c) ÷f (whole 8 ·f D c ·f d c)
      −f h c ÷f (whole 4 ·f d c)

  -- "which equals (D+2h)(D²+4h²)/(16hdD)"
  unfoldable pub G' : Fraction
  G' =
      (D c +f whole 2 ·f h c) ·f (D c ·f D c +f whole 4 ·f (h c ·f h c))
      ÷f (whole 16 ·f h c ·f d c ·f D c)

  -- "Kh = √(1+h)"
  unfoldable pub Kh : Exact
  Kh = root 2 (exactly (whole 1 +f h c))

  -- (2n) to the power −2/n: of a square "one over the n-th root of 4n²", else "e to the power −(2/n)·ln(2n)"
  unfoldable pub inner_weight : Exact
  inner_weight =
      cond (equal_counts c)
      (exactly (whole 1) ÷x root c.across (exactly (whole 4 ·f whole c.across ·f whole c.across)))
      (exp (minus (exactly (whole 2) ÷x n c ·x ln (exactly (whole 2) ·x n c))))

  -- "Kii is 1 for place 1, else (2n) to the power −2/n"
  unfoldable pub Kii : Exact
  Kii = cond (eqb c.place 1) (exactly (whole 1)) inner_weight

  -- "Km = (ln G + (Kii/Kh)·ln(8/(π(2n−1))))/(2π)"
  unfoldable pub Km : Exact
  Km =
      (ln (exactly G) +x Kii ÷x Kh ·x ln (exactly (whole 8) ÷x (π ·x (exactly (whole 2) ·x n c −x exactly (whole 1)))))
      ÷x (exactly (whole 2) ·x π)

  -- "The diagonal is √(Lx²+Ly²)"
  unfoldable pub diagonal : Exact
  diagonal = root 2 (exactly (Lx c ·f Lx c +f Ly c ·f Ly c))

  -- "LM is Lc + LR for place 0 or 2; for place 1 it is Lc + (1.55 + 1.22·Lr/√(2s²))·LR.", √(2s²) being the diagonal
  unfoldable pub LM : Exact
  LM =
      cond (eqb c.place 1)
      (exactly (Lc c)
      +x (exactly (decimal 155 2) +x exactly (decimal 122 2 ·f Lr c) ÷x diagonal) ·x exactly (LR c))
      (exactly (LT c))

  -- "Mesh voltage = ρ·Km·Ki·IG/LM"
  unfoldable pub mesh : Exact
  mesh = exactly (ρ c) ·x Km ·x Ki c ·x IG c ÷x LM
