-- The terms of e^y at two near arguments that are at most 1/2, and the slack near 1.
use Prim.Native.Nat.{ℕ, ◌≤◌}
use mathlib.Core.Logic.{◌⊎◌, inl, inr}
use native.Mathlib.Omega.{arith}
use lib.Dec.{lit≤}
use Rattle.exact.specs.{Fraction.{Fraction, ◌≤f◌, ◌≈f◌, whole, ◌+f◌, ◌·f◌, inv, ◌÷f◌, sum_of}, Exponential.{factorial, exp_term, exp_terms}}
use Rattle.exact.proofs.{Order.{refl≤, trans≤, refl≈, sym≈, trans≈, whole≤, nonneg, total}, Sums.{mono+}}
use Rattle.exact.proofs.Products.{mul≤, mul_left≤, mul_nonneg, mul_assoc, mul_one, one-mul, mul_add, cong·, whole_mul}
use Rattle.exact.proofs.{Series.{pow_nonneg}, Triangle.{sum_product}, Convolution.{zero-add}}
use Rattle.exact.proofs.ExpTerms.{factorial_pos, terms_rated, exp_term_nonneg, exp_terms≤, exp_terms_nonneg, exp_terms_least, half}
use Rattle.exact.proofs.{ExpTerms.{exp_cross}, ExpUp.{slack, half_nonneg}, Exponential.{inverse_high}}
use Rattle.numbers.specs.Number.{Near}
use Rattle.numbers.proofs.Units.{unit, unit_high, half_power_lem}

-- ---- the terms

module _ {y : Fraction} (ny : whole 0 ≤f y) (h : y ≤f half) where
  -- 1 + 2 y
  pub terms_first : (k : ℕ) → exp_terms y k ≤f whole 1 +f whole 2 ·f y
  unfolding exp_terms sum_of
  terms_first k =
      let r = terms_rated y in
      let one : exp_term y 1 ≈f y = trans≈ (sym≈ (one-mul _)) (trans≈ (r.next 0) (trans≈ (cong· (refl≈ y) r.first) (mul_one y))) in
      trans≤ (exp_cross ny h k 1) (mono+ (trans≤ (zero-add _).to r.first.to) (mul_left≤ (nonneg 2) one.to))

whole_half : whole 2 ≈f whole 1 +f whole 2 ·f half
unfolding whole ◌+f◌ ◌·f◌ inv
whole_half = record { to = record { le = lit≤ tt }; fro = record { le = lit≤ tt } }

pub terms≤two : {y : Fraction} → whole 0 ≤f y → y ≤f half → (k : ℕ) → exp_terms y k ≤f whole 2
terms≤two ny h k = trans≤ (terms_first ny h k) (trans≤ (mono+ (refl≤ (whole 1)) (mul_left≤ (nonneg 2) h)) whole_half.fro)

terms_sum : {y v : Fraction} → whole 0 ≤f y → whole 0 ≤f v → (k : ℕ) → exp_terms (y +f v) k ≤f exp_terms y k ·f exp_terms v k
unfolding exp_terms
terms_sum {y} {v} ny nv k =
    sum_product (exp_term y) (exp_term v) (exp_term_nonneg ny) (exp_term_nonneg nv) (terms_rated y) (terms_rated v) (terms_rated (y +f v)) k

pub four : (v : Fraction) → whole 2 ·f (whole 2 ·f v) ≈f whole 4 ·f v
four v = trans≈ (sym≈ (mul_assoc (whole 2) (whole 2) v)) (cong· (sym≈ (whole_mul 2 2)) (refl≈ v))

pub exp_terms_near : {v y y' : Fraction} {k : ℕ} → 1 ≤ k → whole 0 ≤f y → y ≤f y' → y' ≤f half → whole 0 ≤f v → Near v y y'
    → Near (whole 4 ·f v) (exp_terms y k) (exp_terms y' k)
exp_terms_near {v} {y} {y'} {k} c ny l h nv n = go (total v half)
  where
    T : Fraction
    T = exp_terms y k

    ny' : whole 0 ≤f y'
    ny' = trans≤ ny l

    go : (v ≤f half) ⊎ (half ≤f v) → Near (whole 4 ·f v) (exp_terms y k) (exp_terms y' k)
    go (inl s) =
        let nT = exp_terms_nonneg ny k in
        let two : whole 0 ≤f whole 2 ·f v = mul_nonneg (nonneg 2) nv in
        record {
          near =
              trans≤ (exp_terms≤ ny' n.near k)
              (trans≤ (terms_sum ny nv k)
              (trans≤ (mul_left≤ nT (terms_first nv s k))
              (trans≤ (mul_add T (whole 1) (whole 2 ·f v)).to
              (mono+ (mul_one T).to (trans≤ (mul≤ two (terms≤two ny (trans≤ l h) k)) (four v).to)))));
        }
    go (inr s) =
        record {
          near =
              trans≤ (terms≤two ny' h k)
              (trans≤ whole_half.to (mono+ (exp_terms_least ny c) (trans≤ (mul_left≤ (nonneg 2) s) (mul≤ nv (whole≤ (omega arith))))));
        }

-- ---- the slack

pub slack_near : (k : ℕ) → Near (whole 2 ·f unit k) (whole 1) (slack k)
unfolding slack exp_term ◌÷f◌
slack_near k =
    let f : whole 1 ≤f whole (factorial k) = whole≤ (factorial_pos k) in
    record {
      near =
          mono+ (refl≤ (whole 1))
          (mul_left≤ (nonneg 2)
          (trans≤ (mul_left≤ (pow_nonneg half_nonneg k) (inverse_high f)) (trans≤ (mul_one _).to (half_power_lem k).to)));
    }

three : whole 1 +f whole 2 ·f whole 1 ≤f whole 3
unfolding whole ◌+f◌ ◌·f◌
three = record { le = lit≤ tt }

pub slack≤three : (k : ℕ) → slack k ≤f whole 3
slack≤three k = trans≤ (slack_near k).near (trans≤ (mono+ (refl≤ (whole 1)) (mul_left≤ (nonneg 2) (unit_high k))) three)
