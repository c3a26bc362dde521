-- Which values have positive lower ends at every depth, so that one may divide by them and take their logarithm.
use Prim.Native.Nat.{ℕ, zero, suc, ◌*◌, ◌^◌, ◌≤◌, ◌<◌}
use mathlib.Core.Path.{◌≡◌, refl, ap}
use native.Mathlib.{Omega.{arith}, Nat.{mul-le-mul_right, pow-le-pow_right, one-le-pow, pow-suc}}
use Rattle.exact.specs.Fraction.{Fraction, ◌≤f◌, ◌<f◌, whole, decimal, ◌+f◌, ◌·f◌, ◌÷f◌, top}
use Rattle.exact.specs.{Ends.{Ends, combine, ◌+e◌, ◌·e◌, ◌÷e◌}, Exact.{Exact, exactly, ◌+x◌, ◌−x◌, ◌·x◌, ◌÷x◌}}
use Rattle.exact.specs.{Root.{root_digits, root_of, root}, Depth.{Consistent, Proper, Positive, PositiveAt}}
use Rattle.exact.proofs.{Order.{trans≤, lt_of_lt_of_le, le_of_lt}, Outcomes.{lower_of}, Sums.{le+, sub_pos}}
use Rattle.exact.proofs.{Products.{mul-pos, mul_left≤}, Quotients.{inv_pos}, Consistency.{consistent_exactly, proper_at}}
use Rattle.exact.proofs.{KnownEnds.{difference_ends_lem, scaled_ends_lem}, Powers.{one_pow}, RootDigits.{root_above}}

pub positive_upper : {A : Ends} → Proper A → Positive A → whole 0 <f A.upper
positive_upper h p = lt_of_lt_of_le p.positive h.proper

pub positive_exactly : {q : Fraction} → whole 0 <f q → PositiveAt (exactly q)
unfolding exactly
positive_exactly h = record { at = λ k l. record { positive = h } }

-- an operation with positive outcomes at positive arguments
pub positive_combine : (op : Fraction → Fraction → Fraction) {A B : Ends}
    → ((a b : Fraction) → whole 0 <f a → whole 0 <f b → whole 0 <f op a b)
    → Proper A → Proper B → Positive A → Positive B → Positive (combine op A B)
positive_combine op {A} {B} h pa pb qa qb =
    let al = qa.positive in
    let au = positive_upper pa qa in
    let bl = qb.positive in
    let bu = positive_upper pb qb in
    record {
      positive =
          lower_of op A B (λ o. whole 0 <f o)
          (record { first = h _ _ al bl; second = h _ _ al bu; third = h _ _ au bl; fourth = h _ _ au bu });
    }

module _ {x y : Exact} (cx : Consistent x) (cy : Consistent y) (px : PositiveAt x) (py : PositiveAt y) where
  positive_at : (op : Fraction → Fraction → Fraction) → ((a b : Fraction) → whole 0 <f a → whole 0 <f b → whole 0 <f op a b)
      → PositiveAt (λ k. combine op (x k) (y k))
  positive_at op h = record { at = λ k d. positive_combine op h (proper_at cx d) (proper_at cy d) (px.at k d) (py.at k d) }

  pub positive_sum : PositiveAt (x +x y)
  unfolding ◌+x◌ ◌+e◌
  positive_sum = positive_at ◌+f◌ (λ a b h k. lt_of_lt_of_le h (le+ (le_of_lt k)))

  pub positive_product : PositiveAt (x ·x y)
  unfolding ◌·x◌ ◌·e◌
  positive_product = positive_at ◌·f◌ (λ a b h k. mul-pos h k)

  pub positive_quotient : PositiveAt (x ÷x y)
  unfolding ◌÷x◌ ◌÷e◌ ◌÷f◌
  positive_quotient = positive_at ◌÷f◌ (λ a b h k. mul-pos h (inv_pos b))

-- a value whose lower ends are all at least a
pub record AtLeast (a : Fraction) (x : Exact) : Type 0 where
  pub least : (k : ℕ) → 3 ≤ k → a ≤f (x k).lower

pub at_least_exactly : {a q : Fraction} → a ≤f q → AtLeast a (exactly q)
unfolding exactly
at_least_exactly h = record { least = λ k d. h }

pub positive_at_least : {a : Fraction} {x : Exact} → whole 0 <f a → AtLeast a x → PositiveAt x
positive_at_least h l = record { at = λ k d. record { positive = lt_of_lt_of_le h (l.least k d) } }

-- q times what is at least a
pub at_least_times : {a : Fraction} {x : Exact} (q : Fraction) → whole 0 ≤f q → Consistent x → AtLeast a x
    → AtLeast (q ·f a) (exactly q ·x x)
unfolding ◌·x◌
at_least_times q n c l = record { least = λ k d. trans≤ (mul_left≤ n (l.least k d)) (scaled_ends_lem k n (proper_at c d)).lowers.fro }

-- what is at least a, less a fraction below a
pub positive_less : {a q : Fraction} {x : Exact} → q <f a → Consistent x → AtLeast a x → PositiveAt (x −x exactly q)
unfolding ◌−x◌ exactly
positive_less {q = q} h c l =
    record {
      at = λ k d.
          record {
            positive =
                lt_of_lt_of_le (sub_pos (lt_of_lt_of_le h (l.least k d)))
                (difference_ends_lem (proper_at c d) (proper_at (consistent_exactly q) d)).lowers.fro;
          };
    }

-- ---- roots of what is at least a thousandth

thousand : (k n : ℕ) → 3 ≤ k → 1 ≤ n → 1000 ≤ (10 ^ k) ^ n
thousand k zero h l = absurd (omega arith)
thousand k (suc n) h l =
    let t : 10 ^ 3 ≤ 10 ^ k = pow-le-pow_right (omega arith) h in
    let o : 1 ≤ (10 ^ k) ^ n = one-le-pow n (10 ^ k) (omega arith) in
    simp pow-suc (omega (arith, mul-le-mul_right (10 ^ k) o))

thousandth_top : {q : Fraction} → decimal 1 3 ≤f q → q.den ≤ 1000 * top q
unfolding decimal top
thousandth_top {q} h = omega arith

digits_positive : (n : ℕ) (q : Fraction) (k : ℕ) → 1 ≤ n → 3 ≤ k → decimal 1 3 ≤f q → 0 < root_digits n q k
digits_positive n q k h l m = go (root_digits n q k) refl
  where
    go : (r : ℕ) → root_digits n q k ≡ r → 0 < r
    go zero e =
        let a : (10 ^ k) ^ n * top q < 1 ^ n * q.den = rw e at (root_above n h q k) in
        omega (arith, a, ap (λ t. t * q.den) (one_pow n), thousandth_top m, mul-le-mul_right (top q) (thousand k n l h))
    go (suc r) e = omega arith

decimal_positive : {r : ℕ} (k : ℕ) → 0 < r → whole 0 <f decimal r k
unfolding decimal whole
decimal_positive k h = omega arith

pub positive_root : (n : ℕ) {x : Exact} → 1 ≤ n → AtLeast (decimal 1 3) x → PositiveAt (root n x)
unfolding root root_of
positive_root n {x} h m =
    record { at = λ k d. record { positive = decimal_positive k (digits_positive n (x k).lower k h d (m.least k d)) } }
