-- G as a fraction of two whole numbers: it is the formula's, and lies from 25 to 65,536.
use Prim.Native.Nat.{ℕ, ◌+◌, ◌-◌, ◌*◌, ◌^◌, ◌≤◌}
use mathlib.Core.Path.{◌≡◌}
use native.Mathlib.{Omega.{arith}, Nat.{mul-le-mul, mul-le-mul_left, mul-le-mul_right, le_trans}, Decide.{dec_le}}
use lib.Dec.{lit≤}
use Rattle.exact.{specs.Fraction.{◌≈f◌, whole, decimal, ◌+f◌, ◌·f◌, ◌÷f◌}, proofs.{Order.{refl≈, trans≈, whole_pos}, Products.{mul-pos}}}
use Rattle.exact.proofs.Divisors.{cong÷, expand}
use Rattle.logarithm.specs.Ends.{Inside}
use Rattle.case.specs.{declared.Case.{Case}, Bounds.{Bounds}}
use Rattle.formulas.{specs.{Lengths.{D, h, d}, Mesh.{G, G'}}, proofs.{Positive.{D_pos, h_pos, d_pos}, MeshArgument.{G_forms}}}
use Rattle.mesh.specs.Factor.{argument_top, argument_bottom}

-- ---- bounds

-- x² + z² is at least 2xz
twice_product : (x z : ℕ) → 2 * (x * z) ≤ x * x + z * z
twice_product x z = go (dec_le x z)
  where
    apart : (a k : ℕ) → 2 * (a * (a + k)) ≤ a * a + (a + k) * (a + k)
    apart a k = omega arith

    go : Dec (x ≤ z) → 2 * (x * z) ≤ x * x + z * z
    go (yes p) = let e : x + (z - x) ≡ z = omega arith in rw e at (apart x (z - x))
    go (no p) =
        let e : z + (x - z) ≡ x = omega arith in
        let l : 2 * (z * x) ≤ z * z + x * x = rw e at (apart z (x - z)) in
        omega (arith, l)

module _ (x y t : ℕ) where
  -- D² + 4h² is at least 4hD
  argument_from : 3000 ≤ x + 2 * y → t ≤ 300 → 25 * (16 * y * t * x) ≤ 10 * (x + 2 * y) * (x * x + 4 * (y * y))
  argument_from l m =
      let s : 4 * (y * x) ≤ x * x + 4 * (y * y) = omega (arith, twice_product x (2 * y)) in
      omega (arith, mul-le-mul_left (10 * (x + 2 * y)) s, mul-le-mul_right (40 * (y * x)) l, mul-le-mul_right (400 * (y * x)) m)

  -- D² + 4h² is at most 124hD
  argument_to : x ≤ 30000 → 2500 ≤ x → y ≤ 2500 → 250 ≤ y → 50 ≤ t → 10 * (x + 2 * y) * (x * x + 4 * (y * y)) ≤ 65536 * (16 * y * t * x)
  argument_to p q r s u =
      let k : x * x + 4 * (y * y) ≤ 124 * (y * x) =
      omega (arith, mul-le-mul_right x p, mul-le-mul_right (120 * x) s, mul-le-mul_right (4 * y) r, mul-le-mul_right (4 * y) q) in
      let w : x + 2 * y ≤ 35000 = omega arith in
      omega (arith, mul-le-mul_left (10 * (x + 2 * y)) k, mul-le-mul_right (1240 * (y * x)) w, mul-le-mul_right (1048576 * (y * x)) u)

module _ {c : Case} (b : Bounds c) where
  pub argument_low : 25 * argument_bottom c ≤ argument_top c
  unfolding argument_top argument_bottom
  argument_low = argument_from c.space c.depth c.dia (omega (arith, b.space.low, b.depth.low)) b.dia.high

  pub argument_high : argument_top c ≤ 65536 * argument_bottom c
  unfolding argument_top argument_bottom
  argument_high = argument_to c.space c.depth c.dia b.space.high b.space.low b.depth.high b.depth.low b.dia.low

  pub width_sum_high : c.space + 2 * c.depth ≤ 35000
  width_sum_high = omega (arith, b.space.high, b.depth.high)

  pub squares_high : c.space * c.space + 4 * (c.depth * c.depth) ≤ 925000000
  squares_high = omega (arith, mul-le-mul b.space.high b.space.high, mul-le-mul b.depth.high b.depth.high)

  pub top_inside : Inside (argument_top c)
  unfolding argument_top
  top_inside =
      record {
        low = le_trans (lit≤ tt) (mul-le-mul (mul-le-mul_left 10 sum_low) squares_low);
        high = le_trans (mul-le-mul (mul-le-mul_left 10 width_sum_high) squares_high) (lit≤ tt);
      }
    where
      sum_low : 1 ≤ c.space + 2 * c.depth
      sum_low = omega (arith, b.space.low)

      squares_low : 1 ≤ c.space * c.space + 4 * (c.depth * c.depth)
      squares_low = omega (arith, mul-le-mul b.space.low b.space.low)

  pub bottom_inside : Inside (argument_bottom c)
  unfolding argument_bottom
  bottom_inside =
      record {
        low = le_trans (lit≤ tt) (mul-le-mul (mul-le-mul (mul-le-mul_left 16 b.depth.low) b.dia.low) b.space.low);
        high = le_trans (mul-le-mul (mul-le-mul (mul-le-mul_left 16 b.depth.high) b.dia.high) b.space.high) (lit≤ tt);
      }

  -- ---- against the formula

  upper_is : (D c +f whole 2 ·f h c) ·f (D c ·f D c +f whole 4 ·f (h c ·f h c)) ·f whole (10 ^ 10) ≈f whole (argument_top c)
  unfolding D h decimal whole ◌+f◌ ◌·f◌ argument_top
  upper_is = omega arith

  lower_is : whole 16 ·f h c ·f d c ·f D c ·f whole (10 ^ 10) ≈f whole (argument_bottom c)
  unfolding D h d decimal whole ◌·f◌ argument_bottom
  lower_is = omega arith

  pub G_is : G c ≈f whole (argument_top c) ÷f whole (argument_bottom c)
  unfolding G'
  G_is =
      let divisor = mul-pos (mul-pos (mul-pos (whole_pos {n = 16} (omega arith)) (h_pos b)) (d_pos b)) (D_pos b) in
      trans≈ (G_forms b)
      (trans≈ (expand ((D c +f whole 2 ·f h c) ·f (D c ·f D c +f whole 4 ·f (h c ·f h c))) divisor (whole_pos (omega arith)) lower_is)
      (cong÷ (whole_pos bottom_inside.low) upper_is (refl≈ _)))
