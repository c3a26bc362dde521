-- What is left of the series after the last term, for an argument up to 1/3: less than one unit.
use Prim.Native.Nat.{ℕ, zero, suc, ◌+◌, ◌-◌, ◌*◌}
use native.Mathlib.{Omega.{arith}, Nat.{add-zero, add-suc}}
use lib.Dec.{lit≤}
use Rattle.exact.specs.{Fraction.{Fraction, ◌≤f◌, whole, ◌+f◌, neg, ◌−f◌, ◌·f◌, inv, ◌÷f◌, powf}, Logarithm.{argument, term, terms, tail}}
use Rattle.exact.{specs.{Depth.{work_depth}, Reported.{over}}, proofs.{Order.{refl≤, trans≤, whole≤}, Sums.{mono+, add_assoc, le+}}}
use Rattle.exact.proofs.{Series.{pow≤, tail≤, terms_rise}, Sequences.{rising}, SeriesBounds.{term_below}, LogArgument.{square<1}}
use Rattle.exact.proofs.Rounding.{units}
use Rattle.logarithm.specs.Series.{term_count}
use Rattle.logarithm.proofs.Rounding.{binary}

-- the largest argument: that of 2
abbrev pub third : Fraction
third = argument (whole 2)

-- n terms from the j-th on, at the largest argument
left_of : ℕ → ℕ → Fraction
left_of j zero = whole 0
left_of j (suc n) = left_of j n +f term third (j + n)

-- the terms up to the depth of code, and their tail
left_small : left_of term_count (work_depth - term_count) +f tail third work_depth ≤f units binary 1
unfolding left_of argument term tail powf whole neg ◌+f◌ ◌−f◌ ◌·f◌ inv ◌÷f◌ over
left_small = record { le = lit≤ tt }

-- one more summand, put with what is left
absorb : (x b : Fraction) {a c d : Fraction} → a ≤f x +f b → c ≤f d → a +f c ≤f x +f (b +f d)
absorb x b {d = d} h k = trans≤ (mono+ h k) (add_assoc x b d).to

one≤two : whole 1 ≤f whole 2
one≤two = whole≤ (omega arith)

module _ {x : Fraction} (nx : whole 0 ≤f x) (l : x ≤f third) where
  term≤ : (i : ℕ) → term x i ≤f term third i
  unfolding term
  term≤ i = term_below x i (pow≤ nx l (2 * i + 1))

  terms_left : (j n : ℕ) → terms x (j + n) ≤f terms x j +f left_of j n
  unfolding terms left_of
  terms_left j zero = rw add-zero (le+ (refl≤ (whole 0)))
  terms_left j (suc n) = rw add-suc (absorb (terms x j) (left_of j n) (terms_left j n) (term≤ (j + n)))

  pub rest_below : terms x work_depth +f tail x work_depth ≤f terms x term_count +f units binary 1
  rest_below =
      let left = left_of term_count (work_depth - term_count) in
      trans≤ (absorb (terms x term_count) left (terms_left term_count (work_depth - term_count)) (tail≤ nx l (square<1 one≤two) work_depth))
      (mono+ (refl≤ _) left_small)

  pub terms_below : terms x term_count ≤f terms x work_depth
  terms_below = rising (terms x) (terms_rise nx) (omega arith)
