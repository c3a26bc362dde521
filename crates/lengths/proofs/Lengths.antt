-- The lengths in millimetres are those of the formulas, and lie within bounds.
use Prim.Native.Nat.{ℕ, ◌+◌, ◌-◌, ◌*◌, ◌≤◌}
use mathlib.Core.Logic.{⊎_elim}
use native.Mathlib.{Omega.{arith}, Nat.{mul-le-mul}}
use Rattle.exact.{specs.Fraction.{Fraction, ◌≈f◌, whole, decimal, ◌+f◌, ◌·f◌}, proofs.{Order.{refl≈, trans≈}, Sums.{cong+}}}
use Rattle.exact.proofs.Products.{cong·}
use Rattle.case.specs.{declared.Case.{Case}, Bounds.{Between, Bounds, Rodless, Rodded}}
use Rattle.formulas.specs.Lengths.{D, Lr, Lx, Ly, Lc, LR, LT}
use Rattle.lengths.specs.Lengths.{side_of, side_x, side_y, lc_mm, lr_mm, lt_mm}

-- ---- bounds

pub side_bounds : {count space : ℕ} → Between 2 count 25 → Between 2500 space 30000 → Between 2500 (side_of count space) 720000
unfolding side_of
side_bounds {count} n d =
    let low : 1 ≤ count - 1 = omega (arith, n.low) in
    let high : count - 1 ≤ 24 = omega (arith, n.high) in
    record { low = mul-le-mul low d.low; high = mul-le-mul high d.high }

module _ {c : Case} (b : Bounds c) where
  pub x_bounds : Between 2500 (side_x c) 720000
  x_bounds = side_bounds b.across b.space

  pub y_bounds : Between 2500 (side_y c) 720000
  y_bounds = side_bounds b.along b.space

  -- the conductors of one direction
  part_bounds : {count side : ℕ} → Between 2 count 25 → Between 2500 side 720000 → Between 5000 (count * side) 18000000
  part_bounds n l = record { low = mul-le-mul n.low l.low; high = mul-le-mul n.high l.high }

  pub across_bounds : Between 5000 (c.across * side_y c) 18000000
  across_bounds = part_bounds b.across y_bounds

  pub along_bounds : Between 5000 (c.along * side_x c) 18000000
  along_bounds = part_bounds b.along x_bounds

  pub conductor_bounds : Between 10000 (lc_mm c) 36000000
  unfolding lc_mm
  conductor_bounds =
      record { low = omega (arith, across_bounds.low, along_bounds.low); high = omega (arith, across_bounds.high, along_bounds.high) }

  pub rods_high : c.rods ≤ 200
  rods_high = ⊎_elim (λ (r : Rodless c). omega (arith, r.rods)) (λ (r : Rodded c). r.rods.high) b.rods

  pub rodlen_high : c.rodlen ≤ 10000
  rodlen_high = ⊎_elim (λ (r : Rodless c). omega (arith, r.rodlen)) (λ (r : Rodded c). r.rodlen.high) b.rods

  pub rod_bound : lr_mm c ≤ 2000000
  unfolding lr_mm
  rod_bound = mul-le-mul rods_high rodlen_high

  pub total_bounds : Between 10000 (lt_mm c) 38000000
  unfolding lt_mm
  total_bounds = record { low = omega (arith, conductor_bounds.low); high = omega (arith, conductor_bounds.high, rod_bound) }

-- ---- the formulas' lengths

times_decimal : (m k e : ℕ) → whole m ·f decimal k e ≈f decimal (m * k) e
unfolding whole decimal ◌·f◌
times_decimal m k e = omega arith

add_decimal : (m k : ℕ) → decimal m 3 +f decimal k 3 ≈f decimal (m + k) 3
unfolding decimal ◌+f◌
add_decimal m k = omega arith

module _ (c : Case) where
  pub x_is : Lx c ≈f decimal (side_x c) 3
  unfolding Lx D side_of
  x_is = times_decimal (c.across - 1) c.space 3

  pub y_is : Ly c ≈f decimal (side_y c) 3
  unfolding Ly D side_of
  y_is = times_decimal (c.along - 1) c.space 3

  -- the conductors of one direction
  part_is : (count side : ℕ) {q : Fraction} → q ≈f decimal side 3 → whole count ·f q ≈f decimal (count * side) 3
  part_is count side e = trans≈ (cong· (refl≈ (whole count)) e) (times_decimal count side 3)

  pub conductor_is : Lc c ≈f decimal (lc_mm c) 3
  unfolding Lc lc_mm
  conductor_is =
      trans≈ (cong+ (part_is c.across (side_y c) y_is) (part_is c.along (side_x c) x_is))
      (add_decimal (c.across * side_y c) (c.along * side_x c))

  pub rod_is : LR c ≈f decimal (lr_mm c) 3
  unfolding LR Lr lr_mm
  rod_is = times_decimal c.rods c.rodlen 3

  pub total_is : LT c ≈f decimal (lt_mm c) 3
  unfolding LT lt_mm
  total_is = trans≈ (cong+ conductor_is rod_is) (add_decimal (lc_mm c) (lr_mm c))
