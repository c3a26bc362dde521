-- Two sequences as the terms of e^a and of e^b: k terms of e^(a + b) are at most the product of k terms of each, which is at most 2 k terms
-- of e^(a + b). The products of degree below k lie in the square of k by k, which lies in those of degree below 2 k.
use Prim.Native.Nat.{ℕ, zero, suc, ◌+◌, ◌≤◌}
use native.Mathlib.{Omega.{arith}, Nat.{add-suc, suc-add, add-zero as nat-add-zero, zero-add as nat-zero-add}}
use Rattle.exact.specs.Fraction.{Fraction, ◌≤f◌, ◌≈f◌, whole, ◌+f◌, ◌·f◌, sum_of}
use Rattle.exact.proofs.{Order.{refl≤, trans≤, refl≈, sym≈, trans≈}, Sums.{mono+, cong+, le+, add_assoc, add-zero}}
use Rattle.exact.proofs.{Products.{mul_left≤, mul_nonneg, mul_add, add_mul, cong·}, Sequences.{rising}, SeriesBounds.{sum_of≤}}
use Rattle.exact.proofs.Convolution.{add_swap, zero-add, zero_mul, Rated, rated_unique, mixed, mixed_rated}

module _ (t s : ℕ → Fraction) where
  -- t m · s (n − 1) + .., n products
  abbrev degree : ℕ → ℕ → Fraction
  degree = mixed t s

  -- all products t (m + i) · s j with i + j < k
  triangle : ℕ → ℕ → Fraction
  triangle m zero = whole 0
  triangle m (suc k) = t m ·f sum_of s (suc k) +f triangle (suc m) k

  triangle_next : (m k : ℕ) → triangle m (suc k) ≈f triangle m k +f degree m (suc k)
  unfolding triangle mixed sum_of
  triangle_next m zero = trans≈ (cong+ (cong· (refl≈ (t m)) (zero-add (s 0))) (refl≈ _)) (sym≈ (zero-add _))
  triangle_next m (suc k) = trans≈ (cong+ (mul_add (t m) (sum_of s (suc k)) (s (suc k))) (triangle_next (suc m) k)) (add_swap _ _ _ _)

  triangle_is : (k : ℕ) → sum_of (λ n. degree 0 (suc n)) k ≈f triangle 0 k
  unfolding sum_of triangle
  triangle_is zero = refl≈ (whole 0)
  triangle_is (suc k) = trans≈ (cong+ (triangle_is k) (refl≈ _)) (sym≈ (triangle_next 0 k))

  module _ (nt : (i : ℕ) → whole 0 ≤f t i) (ns : (i : ℕ) → whole 0 ≤f s i) where
    -- with the terms before m, all times S
    triangle≤ : (S : Fraction) (m k : ℕ) → ((j : ℕ) → j ≤ k → sum_of s j ≤f S) → sum_of t m ·f S +f triangle m k ≤f sum_of t (m + k) ·f S
    unfolding triangle sum_of
    triangle≤ S m zero h = rw nat-add-zero (add-zero (sum_of t m ·f S)).to
    triangle≤ S m (suc k) h =
        rw add-suc
        (trans≤ (mono+ (refl≤ _) (mono+ (mul_left≤ (nt m) (h (suc k) (omega arith))) (refl≤ _)))
        (trans≤ (add_assoc (sum_of t m ·f S) (t m ·f S) (triangle (suc m) k)).fro
        (trans≤ (mono+ (add_mul (sum_of t m) (t m) S).fro (refl≤ _)) (rw suc-add at (triangle≤ S (suc m) k (λ j l. h j (omega arith)))))))

    sums_rise : (k : ℕ) → sum_of s k ≤f sum_of s (suc k)
    unfolding sum_of
    sums_rise k = le+ (ns k)

    -- and a square of products lies in a triangle
    triangle_nonneg : (m k : ℕ) → whole 0 ≤f triangle m k
    unfolding triangle sum_of
    triangle_nonneg m zero = refl≤ (whole 0)
    triangle_nonneg m (suc k) =
        trans≤ (mul_nonneg (nt m) (rising (sum_of s) sums_rise {j = 0} {k = suc k} (omega arith))) (le+ (triangle_nonneg (suc m) k))

    square≤ : (m n k : ℕ) → sum_of t (m + n) ·f sum_of s k ≤f sum_of t m ·f sum_of s k +f triangle m (n + k)
    unfolding triangle sum_of
    square≤ m zero k = rw nat-add-zero (le+ (triangle_nonneg m (0 + k)))
    square≤ m (suc n) k =
        let S = sum_of s k in
        let l : k ≤ suc (n + k) = omega arith in
        rw (add-suc, suc-add n k)
        (trans≤ (rw suc-add at (square≤ (suc m) n k))
        (trans≤ (mono+ (add_mul (sum_of t m) (t m) S).to (refl≤ _))
        (trans≤ (add_assoc (sum_of t m ·f S) (t m ·f S) (triangle (suc m) (n + k))).to
        (mono+ (refl≤ _) (mono+ (mul_left≤ (nt m) (rising (sum_of s) sums_rise l)) (refl≤ _))))))

    -- k terms of e^(a + b)
    pub sum_product : {a b : Fraction} {r : ℕ → Fraction} → Rated a t → Rated b s → Rated (a +f b) r → (k : ℕ)
        → sum_of r k ≤f sum_of t k ·f sum_of s k
    unfolding sum_of
    sum_product {r = r} ht hs hr k =
        let low : sum_of r k ≤f sum_of (λ n. degree 0 (suc n)) k = sum_of≤ r _ (λ i. (rated_unique hr (mixed_rated t s ht hs) i).to) k in
        trans≤ low (trans≤ (triangle_is k).to (trans≤ (trans≤ (zero-add _).fro (mono+ (zero_mul _).fro (refl≤ _))) bound))
      where
        bound : whole 0 ·f sum_of s k +f triangle 0 k ≤f sum_of t k ·f sum_of s k
        bound = rw nat-zero-add at (triangle≤ (sum_of s k) 0 k (λ j l. rising (sum_of s) sums_rise l))

    -- and n + k of them against n and k
    pub product_sum : {a b : Fraction} {r : ℕ → Fraction} → Rated a t → Rated b s → Rated (a +f b) r → (n k : ℕ)
        → sum_of t n ·f sum_of s k ≤f sum_of r (n + k)
    unfolding sum_of
    product_sum {r = r} ht hs hr n k =
        let high : sum_of (λ n. degree 0 (suc n)) (n + k) ≤f sum_of r (n + k) =
        sum_of≤ _ r (λ i. (rated_unique hr (mixed_rated t s ht hs) i).fro) (n + k) in
        trans≤ (rw nat-zero-add at (square≤ 0 n k))
        (trans≤ (trans≤ (mono+ (zero_mul _).to (refl≤ _)) (zero-add _).to) (trans≤ (triangle_is (n + k)).fro high))
