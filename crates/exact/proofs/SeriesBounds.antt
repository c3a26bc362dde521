-- What a calculation with rounded powers gives of the logarithm's series: P i stands for z^(2i+1), w for z², T i for a term.
use Prim.Native.Nat.{ℕ, zero, suc, ◌+◌, ◌*◌}
use Rattle.exact.specs.{Fraction.{Fraction, ◌≤f◌, ◌<f◌, ◌≈f◌, whole, ◌−f◌, ◌·f◌, ◌÷f◌, powf, sum_of}, Logarithm.{term, terms, tail}}
use Rattle.exact.proofs.{Order.{refl≤, trans≤, refl≈, whole_pos, nonneg}, Sums.{mono+, cong+}}
use Rattle.exact.proofs.{Products.{mul_left≤, mono·, mul_nonneg, mul-pos, one-mul}, Quotients.{div≤, mono÷}}
use Rattle.exact.proofs.Series.{pow_nonneg, pow_odd, odd_pos}

pub sum_of≤ : (s t : ℕ → Fraction) → ((i : ℕ) → s i ≤f t i) → (k : ℕ) → sum_of s k ≤f sum_of t k
unfolding sum_of
sum_of≤ s t h zero = refl≤ (whole 0)
sum_of≤ s t h (suc k) = mono+ (sum_of≤ s t h k) (h k)

terms_are : (z : Fraction) (k : ℕ) → terms z k ≈f sum_of (term z) k
unfolding terms sum_of
terms_are z zero = refl≈ (whole 0)
terms_are z (suc k) = cong+ (terms_are z k) (refl≈ (term z k))

module _ {z : Fraction} (nz : whole 0 ≤f z) (w : Fraction) (P : ℕ → Fraction) where
  pub powers_below : whole 0 ≤f w → w ≤f z ·f z → P 0 ≤f z → ((i : ℕ) → P (suc i) ≤f P i ·f w) → (i : ℕ) → P i ≤f powf z (2 * i + 1)
  unfolding powf
  powers_below nw hw h step zero = trans≤ h (one-mul z).fro
  powers_below nw hw h step (suc i) =
      trans≤ (step i)
      (trans≤ (mono· nw (pow_nonneg nz (2 * i + 1)) (powers_below nw hw h step i) hw) (pow_odd z i).fro)

  pub powers_above : z ·f z ≤f w → z ≤f P 0 → ((i : ℕ) → P i ·f w ≤f P (suc i)) → (i : ℕ) → powf z (2 * i + 1) ≤f P i
  unfolding powf
  powers_above hw h step zero = trans≤ (one-mul z).to h
  powers_above hw h step (suc i) =
      let p : powf z (2 * i + 1) ≤f P i = powers_above hw h step i in
      trans≤ (pow_odd z i).to
      (trans≤ (mono· (mul_nonneg nz nz) (trans≤ (pow_nonneg nz (2 * i + 1)) p) p hw) (step i))

-- a term with another number in the power's place
abbrev pub term_of : Fraction → ℕ → Fraction
term_of p i = whole 2 ·f p ÷f whole (2 * i + 1)

module _ (z : Fraction) {p : Fraction} (i : ℕ) where
  pub term_above : p ≤f powf z (2 * i + 1) → term_of p i ≤f term z i
  unfolding term
  term_above h = div≤ (whole (2 * i + 1)) (mul_left≤ (nonneg 2) h)

  pub term_below : powf z (2 * i + 1) ≤f p → term z i ≤f term_of p i
  unfolding term
  term_below h = div≤ (whole (2 * i + 1)) (mul_left≤ (nonneg 2) h)

pub tail_below : (z p : Fraction) (i : ℕ) (d : Fraction) → whole 0 ≤f p → whole 0 <f d → d ≤f whole 1 −f z ·f z → powf z (2 * i + 1) ≤f p
    → tail z i ≤f whole 2 ·f p ÷f (whole (2 * i + 1) ·f d)
unfolding tail
tail_below z p i d np hd hz h =
    mono÷ (mul_nonneg (nonneg 2) np) (mul-pos (whole_pos (odd_pos i)) hd) (mul_left≤ (nonneg 2) h) (mul_left≤ (nonneg (2 * i + 1)) hz)
