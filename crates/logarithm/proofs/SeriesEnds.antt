-- The series of whole numbers against the exact one: rounded down it is below, rounded up above.
use Prim.Native.Nat.{ℕ, zero, suc, ◌+◌, ◌*◌}
use Rattle.exact.specs.{Fraction.{Fraction, ◌≤f◌, whole, ◌·f◌, powf}, Logarithm.{term, terms}}
use Rattle.exact.proofs.SeriesBounds.{powers_below, powers_above, term_above, term_below}
use Rattle.exact.proofs.Rounding.{units, Toward, toward_trans, toward_sum, toward_product, toward_same, units_nonneg, units_sum, units_zero}
use Rattle.exact.proofs.Rounding.{rounded, product_is}
use Rattle.logarithm.specs.Series.{square_of, power_of, term_of, terms_of}
use Rattle.logarithm.proofs.Rounding.{binary, term_is}

-- z² and z^(2i+1) as fractions
abbrev square : ℕ → ℕ → Fraction
square up z = units binary (square_of up z)

abbrev power : ℕ → ℕ → ℕ → Fraction
power up z i = units binary (power_of up z i)

module _ (z : ℕ) {x : Fraction} (nx : whole 0 ≤f x) {up : ℕ} (h : Toward up (units binary z) x) where
  square_toward : Toward up (square up z) (x ·f x)
  unfolding square_of
  square_toward =
      let n = units_nonneg binary z in
      toward_trans (rounded (product_is binary z z) up) (toward_product nx n n nx h h)

  power_step : (i : ℕ) → Toward up (power up z (suc i)) (power up z i ·f square up z)
  unfolding power_of
  power_step i = rounded (product_is binary (power_of up z i) (square_of up z)) up

  power_toward : (i : ℕ) → Toward up (power up z i) (powf x (2 * i + 1))
  unfolding power_of
  power_toward i =
      record {
        down =
            λ e. powers_below nx (square up z) (power up z) (units_nonneg binary _) (square_toward.down e) (h.down e)
            (λ i. (power_step i).down e) i;
        upward = λ l. powers_above nx (square up z) (power up z) (square_toward.upward l) (h.upward l) (λ i. (power_step i).upward l) i;
      }

  term_toward : (i : ℕ) → Toward up (units binary (term_of up z i)) (term x i)
  unfolding term_of
  term_toward i =
      let p = power_toward i in
      toward_trans (rounded (term_is (power_of up z i) i) up)
      (record { down = λ e. term_above x i (p.down e); upward = λ l. term_below x i (p.upward l) })

  pub terms_toward : (k : ℕ) → Toward up (units binary (terms_of up z k)) (terms x k)
  unfolding terms_of terms
  terms_toward zero = toward_same up (units_zero binary)
  terms_toward (suc k) =
      toward_trans (toward_same up (units_sum binary (terms_of up z k) (term_of up z k))) (toward_sum (terms_toward k) (term_toward k))
