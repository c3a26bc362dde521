-- §4.1, §4.2: "Equal counts keep the square's definitions": with n conductors each way and the side s.
use Prim.Native.Nat.{ℕ, ◌-◌, ◌^◌}
use mathlib.Core.{Path.{◌≡◌, sym, ap, subst}, Bool.{true}}
use native.Mathlib.Omega.{arith}
use lib.Dec.{lit≤}
use borrow.Author.Tests.{eq-eqb}
use Rattle.exact.specs.{Fraction.{Fraction, ◌≈f◌, whole, ◌+f◌, ◌·f◌, inv, ◌÷f◌}, Exact.{exactly, ◌÷x◌}, Root.{root}, Depth.{SameEnds}}
use Rattle.exact.proofs.{Order.{refl≈, trans≈}, Products.{mul_assoc, mul_one, cong·}, Quotients.{mul_inv}, Roots.{root_value}}
use Rattle.case.specs.{declared.Case.{Case}, Bounds.{Bounds}}
use Rattle.formulas.specs.{Lengths.{D, Lx, Ly, Lc, Lp, equal_counts, s, na, n}, Mesh.{inner_weight, diagonal}, Step.{half_power}}
use Rattle.formulas.proofs.Positive.{Lp-pos}

doubled : (m : ℕ) (q : Fraction) → whole m ·f q +f whole m ·f q ≈f whole 2 ·f whole m ·f q
unfolding whole ◌·f◌ ◌+f◌
doubled m q = omega arith

fourfold : (m : ℕ) (q : Fraction) → whole 2 ·f (whole 2 ·f whole m ·f q) ≈f whole m ·f (whole 2 ·f (q +f q))
unfolding whole ◌·f◌ ◌+f◌
fourfold m q = omega arith

twice : (q : Fraction) → q +f q ≈f whole 2 ·f q
unfolding whole ◌·f◌ ◌+f◌
twice q = omega arith

module _ (c : Case) (e : c.across ≡ c.along) where
  equal : equal_counts c ≡ true
  equal = eq-eqb c.across c.along e

  -- ---- n, s, the inner weight and the half power

  pub n_whole : n c ≡ exactly (whole c.across)
  unfolding n
  n_whole = rw equal

  pub s_side : s c ≡ exactly (Lx c)
  unfolding s
  s_side = rw equal

  pub weight_root : inner_weight c ≡ exactly (whole 1) ÷x root c.across (exactly (whole 4 ·f whole c.across ·f whole c.across))
  unfolding inner_weight
  weight_root = rw equal

  pub half_power_lem : half_power c ≡ exactly (inv (whole (2 ^ (c.across - 2))))
  unfolding half_power
  half_power_lem = rw equal

  -- ---- the lengths: "Lc = 2·n·s", and √(2s²) for the diagonal

  sides : Ly c ≡ Lx c
  unfolding Lx Ly
  sides = ap (λ m. whole (m - 1) ·f D c) (sym e)

  pub conductors : Lc c ≈f whole 2 ·f whole c.across ·f Lx c
  unfolding Lc
  conductors =
      subst (λ y. whole c.across ·f y +f whole c.along ·f Lx c ≈f whole 2 ·f whole c.across ·f Lx c) (sym sides)
      (subst (λ m. whole c.across ·f Lx c +f whole m ·f Lx c ≈f whole 2 ·f whole c.across ·f Lx c) e (doubled c.across (Lx c)))

  pub diagonal_square : (k : ℕ) → SameEnds (diagonal c k) (root 2 (exactly (whole 2 ·f (Lx c ·f Lx c))) k)
  unfolding diagonal
  diagonal_square k = rw sides (root_value 2 (lit≤ tt) (twice (Lx c ·f Lx c)) k)

  -- na is n, so that the widths refer to Ki of n
  pub na_whole : Bounds c → na c ≈f whole c.across
  unfolding na Lp ◌÷f◌
  na_whole b =
      let m = whole c.across in
      let twice-length : whole 2 ·f Lc c ≈f m ·f Lp c
      = trans≈ (cong· (refl≈ (whole 2)) conductors)
      (subst (λ y. whole 2 ·f (whole 2 ·f m ·f Lx c) ≈f m ·f (whole 2 ·f (Lx c +f y))) (sym sides) (fourfold c.across (Lx c))) in
      trans≈ (cong· twice-length (refl≈ _)) (trans≈ (mul_assoc m (Lp c) _) (trans≈ (cong· (refl≈ m) (mul_inv (Lp-pos b))) (mul_one m)))
