-- The lengths of a case within its bounds are positive.
use Prim.Native.Nat.{ℕ, ◌-◌, ◌≤◌, ◌<◌}
use mathlib.Core.{Path.{◌≡◌}, Logic.{⊎_elim}}
use native.Mathlib.{Omega.{arith}, Nat.{mul-le-mul_right}}
use lib.Dec.{lit≤}
use Rattle.exact.specs.Fraction.{Fraction, ◌≤f◌, ◌<f◌, whole, decimal, ◌+f◌, ◌·f◌, ◌÷f◌}
use Rattle.exact.proofs.{Order.{trans≤, lt_of_lt_of_le, le_of_lt, refl≤, whole≤, whole_pos, nonneg}, Sums.{add_comm, mono+, le+}}
use Rattle.exact.proofs.{Products.{mul-pos, mul_nonneg, mul≤, mono·, mul_assoc, mul_one, mul_add, one-mul}, Quotients.{inv_pos, mul_inv}}
use Rattle.case.specs.{declared.Case.{Case}, Bounds.{Bounds, Rodless, Rodded}}
use Rattle.formulas.specs.{Lengths.{ρ, D, h, d, Lr, Lx, Ly, Lc, Lp, area, LR, LT, na}, Mesh.{G'}, Step.{LS}}

pub decimal_pos : {m : ℕ} (e : ℕ) → 0 < m → whole 0 <f decimal m e
unfolding decimal whole
decimal_pos e l = record { lt = omega arith }

pub decimal_nonneg : (m e : ℕ) → whole 0 ≤f decimal m e
unfolding decimal whole
decimal_nonneg m e = record { le = omega arith }

pub add_pos : {a b : Fraction} → whole 0 <f a → whole 0 ≤f b → whole 0 <f a +f b
add_pos p q = lt_of_lt_of_le p (le+ q)

pub div_pos : {a : Fraction} (b : Fraction) → whole 0 <f a → whole 0 <f a ÷f b
unfolding ◌÷f◌
div_pos b p = mul-pos p (inv_pos b)

-- from 1 up is at least a thousandth
pub one_thousandth : {q : Fraction} → whole 1 ≤f q → decimal 1 3 ≤f q
unfolding decimal whole
one_thousandth p = trans≤ (record { le = lit≤ tt }) p

metre : (m : ℕ) → 1000 ≤ m → whole 1 ≤f decimal m 3
unfolding whole decimal
metre m l = omega arith

pub millisecond : {m : ℕ} → 1 ≤ m → decimal 1 3 ≤f decimal m 3
unfolding decimal
millisecond l = omega arith

pub four_squares : {m : ℕ} → 1 ≤ m → whole 1 ≤f whole 4 ·f whole m ·f whole m
unfolding whole ◌·f◌
four_squares {m} l = omega (arith, mul-le-mul_right m l)

-- a product of two numbers from 1 up
product_least : {p q : Fraction} → whole 1 ≤f p → whole 1 ≤f q → whole 1 ≤f p ·f q
product_least h k = trans≤ (one-mul (whole 1)).fro (mono· (nonneg 1) (trans≤ (nonneg 1) h) h k)

-- ---- rods

pub rodded : {c : Case} → Bounds c → c.place ≡ 1 → Rodded c
rodded {c} b e = ⊎_elim (λ (r : Rodless c). absurd (omega (arith, r.place))) (λ r. r) b.rods

module _ {c : Case} (r : Rodded c) where
  pub Lr-pos : whole 0 <f Lr c
  unfolding Lr
  Lr-pos = decimal_pos 3 (omega (arith, r.rodlen.low))

  pub LR_pos : whole 0 <f LR c
  unfolding LR
  LR_pos = mul-pos (whole_pos (omega (arith, r.rods.low))) Lr-pos

-- ---- lengths and the mesh voltage's argument

module _ {c : Case} (b : Bounds c) where
  pub ρ_pos : whole 0 <f ρ c
  unfolding ρ
  ρ_pos = whole_pos (omega (arith, b.soil.low))

  pub D_pos : whole 0 <f D c
  unfolding D
  D_pos = decimal_pos 3 (omega (arith, b.space.low))

  pub h_pos : whole 0 <f h c
  unfolding h
  h_pos = decimal_pos 3 (omega (arith, b.depth.low))

  pub d_pos : whole 0 <f d c
  unfolding d
  d_pos = decimal_pos 4 (omega (arith, b.dia.low))

  -- the sides are at least a metre
  side_metre : (count : ℕ) → 2 ≤ count → whole 1 ≤f whole (count - 1) ·f D c
  unfolding D
  side_metre count l = product_least (whole≤ (omega arith)) (metre c.space (omega (arith, b.space.low)))

  pub Lx-metre : whole 1 ≤f Lx c
  unfolding Lx
  Lx-metre = side_metre c.across b.across.low

  pub Ly-metre : whole 1 ≤f Ly c
  unfolding Ly
  Ly-metre = side_metre c.along b.along.low

  pub Lx-pos : whole 0 <f Lx c
  Lx-pos = lt_of_lt_of_le (whole_pos (omega arith)) Lx-metre

  pub Ly-pos : whole 0 <f Ly c
  Ly-pos = lt_of_lt_of_le (whole_pos (omega arith)) Ly-metre

  pub area_least : whole 1 ≤f area c
  unfolding area
  area_least = product_least Lx-metre Ly-metre

  -- the square of the diagonal
  pub diagonal_least : whole 1 ≤f Lx c ·f Lx c +f Ly c ·f Ly c
  diagonal_least = trans≤ (product_least Lx-metre Lx-metre) (le+ (mul_nonneg (le_of_lt Ly-pos) (le_of_lt Ly-pos)))

  pub Lp-pos : whole 0 <f Lp c
  unfolding Lp
  Lp-pos = mul-pos (whole_pos (omega arith)) (add_pos Lx-pos (le_of_lt Ly-pos))

  -- there are at least two conductors each way
  pub Lp-within-Lc : Lp c ≤f Lc c
  unfolding Lp Lc
  Lp-within-Lc =
      trans≤ (mul_add (whole 2) (Lx c) (Ly c)).to
      (trans≤ (add_comm (whole 2 ·f Lx c) (whole 2 ·f Ly c)).to
      (mono+ (mul≤ (le_of_lt Ly-pos) (whole≤ b.across.low)) (mul≤ (le_of_lt Lx-pos) (whole≤ b.along.low))))

  pub Lc-pos : whole 0 <f Lc c
  Lc-pos = lt_of_lt_of_le Lp-pos Lp-within-Lc

  pub na_least : whole 2 ≤f na c
  unfolding na ◌÷f◌
  na_least =
      trans≤ (mul_one (whole 2)).fro
      (trans≤ (mono· (le_of_lt (whole_pos (omega arith))) (nonneg 2) (refl≤ (whole 2)) (mul_inv Lp-pos).fro)
      (trans≤ (mul_assoc (whole 2) (Lp c) _).fro
      (mul≤ (le_of_lt (inv_pos (Lp c))) (mono· (le_of_lt Lp-pos) (nonneg 2) (refl≤ (whole 2)) Lp-within-Lc))))

  pub na_pos : whole 0 <f na c
  na_pos = lt_of_lt_of_le (whole_pos (omega arith)) na_least

  pub LR_nonneg : whole 0 ≤f LR c
  unfolding LR Lr
  LR_nonneg = mul_nonneg (nonneg c.rods) (decimal_nonneg c.rodlen 3)

  pub LT_pos : whole 0 <f LT c
  unfolding LT
  LT_pos = add_pos Lc-pos LR_nonneg

  pub LS_pos : whole 0 <f LS c
  unfolding LS
  LS_pos = add_pos (mul-pos (decimal_pos 2 (omega arith)) Lc-pos) (mul_nonneg (decimal_nonneg _ 2) LR_nonneg)

  pub G'_pos : whole 0 <f G' c
  unfolding G'
  G'_pos =
      div_pos _
      (mul-pos (add_pos D_pos (le_of_lt (mul-pos (whole_pos (omega arith)) h_pos)))
      (add_pos (mul-pos D_pos D_pos) (le_of_lt (mul-pos (whole_pos (omega arith)) (mul-pos h_pos h_pos)))))
