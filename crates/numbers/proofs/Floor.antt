-- A consistent value with positive ends that come together stays above a positive fraction: from some depth on above a third of what
-- depth 3 shows, and before that above the least of its lower ends. So its quotients come together too.
use Prim.Native.Nat.{ℕ, zero, suc, ◌*◌, ◌^◌, ◌≤◌, ◌<◌}
use mathlib.Core.{Path.{◌≡◌}, Logic.{◌⊎◌, inl, inr}}
use native.Mathlib.{Omega.{arith}, Decide.{dec_le}, Nat.{mul-le-mul_right, mul-pos, eq-or-lt_of_le}}
use lib.Pow.{pow_pos}
use Rattle.exact.specs.{Fraction.{Fraction, ◌≤f◌, ◌<f◌, whole, ◌+f◌, ◌·f◌, inv, minf}, Ends.{Ends}, Exact.{Exact, ◌÷x◌}}
use Rattle.exact.{specs.Depth.{Consistent, PositiveAt}, proofs.Order.{trans≤, le_of_lt, refl≈, whole_pos, min_cases, min_left, min_right}}
use Rattle.exact.proofs.{Sums.{cancel≤, mono+, le+, neg_nonpos}, Products.{mul_nonneg, mul_assoc, add_mul, cong·}}
use Rattle.exact.proofs.{Quotients.{clamped, inv≤, inv_nonneg}, Powers.{below_pow}, Consistency.{proper_at}}
use Rattle.exact.proofs.Alike.{inverse_ends, inverse_proper, quotient_product}
use Rattle.numbers.specs.Number.{Narrows}
use Rattle.numbers.proofs.{Near.{exchanged, near_more, near_between, near_inverse}, Units.{unit, units_nonneg}}
use Rattle.numbers.proofs.{Narrow.{narrow_at, narrows_by}, Products.{Bounded, product_narrow, bounded_at}}

-- ---- before a depth

record Lowest (x : Exact) (n : ℕ) : Type 0 where
  least : Fraction
  positive : whole 0 <f least
  below : (k : ℕ) → 3 ≤ k → k < n → least ≤f (x k).lower

lowest_next : {x : Exact} {n : ℕ} → PositiveAt x → Lowest x n → Dec (3 ≤ n) → Lowest x (suc n)
lowest_next {x} {n} p l (yes d) =
    let a = l.least in
    let b = (x n).lower in
    record {
      least = minf a b;
      positive = min_cases (λ m. whole 0 <f m) (λ _. l.positive) (λ _. (p.at n d).positive);
      below = λ k h s. go k h (eq-or-lt_of_le (omega arith));
    }
  where
    go : (k : ℕ) → 3 ≤ k → (k ≡ n) ⊎ (k < n) → minf l.least (x n).lower ≤f (x k).lower
    go k h (inl e) = rw e (min_right _ _)
    go k h (inr s) = trans≤ (min_left _ _) (l.below k h s)
lowest_next p l (no d) = record { least = l.least; positive = l.positive; below = λ k h s. l.below k h (omega arith) }

lowest : {x : Exact} → PositiveAt x → (n : ℕ) → Lowest x n
lowest p zero = record { least = whole 1; positive = whole_pos (omega arith); below = λ k h s. absurd (omega arith) }
lowest p (suc n) = lowest_next p (lowest p n) (dec_le 3 n)

-- ---- from a depth on

-- at most a third of a positive fraction: a third of 1 / den
pub part : Fraction → Fraction
part e = record { plus = 1; minus = 0; den = 3 * e.den; positive = mul-pos (omega arith) e.positive }

pub part_positive : (e : Fraction) → whole 0 <f part e
unfolding whole part
part_positive e = omega arith

pub parts≤ : {e : Fraction} → whole 0 <f e → part e +f part e +f part e ≤f e
unfolding whole part ◌+f◌
parts≤ {e} h =
    let l : e.minus < e.plus = omega arith in
    omega (arith, mul-le-mul_right (e.den * e.den * e.den) l)

-- n / 2^k
pub units≤part : (e : Fraction) (n k : ℕ) → n * (3 * e.den) ≤ k → whole n ·f unit k ≤f part e
unfolding whole part inv ◌·f◌
units≤part e n k h =
    let e : (inv (whole (2 ^ k))).den ≡ 2 ^ k = clamped (pow_pos k) in
    omega (arith, h, e, below_pow 2 k (omega arith))

pub record Floor (x : Exact) : Type 0 where
  pub least : Fraction
  pub positive : whole 0 <f least
  pub below : (k : ℕ) → 3 ≤ k → least ≤f (x k).lower

module _ {x : Exact} (c : Consistent x) (p : PositiveAt x) (n : Narrows x) where
  late : (k : ℕ) → 3 ≤ k → n.rate * (3 * (x 3).lower.den) ≤ k → part (x 3).lower ≤f (x k).lower
  late k d h =
      let e = (x 3).lower in
      let o : 3 ≤ 3 = omega arith in
      let w = near_more (narrow_at n d) (units≤part e n.rate k h) in
      let two : part e +f part e ≤f e = trans≤ (le+ (le_of_lt (part_positive e))) (parts≤ (p.at 3 o).positive) in
      cancel≤ (part e) (trans≤ two (trans≤ (c.agree 3 k o d) w.near))

  pub floor_at : Floor x
  floor_at =
      let K : ℕ = n.rate * (3 * (x 3).lower.den) in
      let l : Lowest x K = lowest p K in
      record {
        least = minf l.least (part (x 3).lower);
        positive = min_cases (λ m. whole 0 <f m) (λ _. l.positive) (λ _. part_positive (x 3).lower);
        below = λ k d. go l k d (dec_le K k);
      }
    where
      go : (l : Lowest x (n.rate * (3 * (x 3).lower.den))) (k : ℕ) → 3 ≤ k → Dec (n.rate * (3 * (x 3).lower.den) ≤ k)
          → minf l.least (part (x 3).lower) ≤f (x k).lower
      go l k d (yes h) = trans≤ (min_right _ _) (late k d h)
      go l k d (no h) = trans≤ (min_left _ _) (l.below k d (omega arith))

-- ---- quotients

inverse_bounded : (B : Ends) {c : Fraction} → whole 0 <f c → c ≤f B.lower → Bounded (inv c) (inverse_ends B)
inverse_bounded B {c} pc l = record { high = inv≤ pc l; low = neg_nonpos (inv_nonneg B.upper) (inv_nonneg c) }

module _ {x y : Exact} (cx : Consistent x) (cy : Consistent y) (py : PositiveAt y) (nx : Narrows x) (ny : Narrows y) where
  pub narrows_quotient : Narrows (x ÷x y)
  unfolding ◌÷x◌
  narrows_quotient =
      let bx = bounded_at cx nx in
      let f = floor_at cy py ny in
      let g : Fraction = inv f.least in
      let M : Fraction = whole bx.bound in
      narrows_by (M ·f (whole ny.rate ·f (g ·f g)) +f g ·f whole nx.rate)
      (λ k d.
      let l = f.below k d in
      let u = unit k in
      let pb = proper_at cy d in
      let nb = units_nonneg ny.rate k in
      let i = near_inverse f.positive l (trans≤ l pb.proper) nb (narrow_at ny d) in
      let s = quotient_product (x k) (y k) in
      near_more
      (near_between
      (product_narrow (proper_at cx d) (inverse_proper pb (py.at k d)) (narrow_at nx d) i (units_nonneg nx.rate k)
      (mul_nonneg nb (mul_nonneg (inv_nonneg f.least) (inv_nonneg f.least))) (bx.ends k d) (inverse_bounded (y k) f.positive l))
      s.lowers.fro s.uppers.to)
      (trans≤
      (mono+ (trans≤ (cong· (refl≈ M) (exchanged (whole ny.rate) u (g ·f g))).to (mul_assoc M _ u).fro) (mul_assoc g _ u).fro)
      (add_mul _ _ u).fro))
