-- ln q for q ≥ 1, which is m ln 2 + ln (q / 2^m): not negative, growing with q across the halvings, and consistent.
use Prim.Native.Nat.{ℕ, ◌^◌, ◌<◌}
use mathlib.Core.{Path.{◌≡◌}, Logic.{◌⊎◌, inl, inr}}
use native.Mathlib.{Omega.{arith}, Nat.{eq-or-lt_of_le}}
use Rattle.exact.specs.{Fraction.{Fraction, ◌≤f◌, whole, ◌+f◌, ◌·f◌, ◌÷f◌}, Ends.{◌·e◌}, Exact.{exactly, ◌+x◌, ◌·x◌}}
use Rattle.exact.specs.{Logarithm.{ln_near, halvings, ln_up}, Depth.{Consistent, Proper, SameEnds}}
use Rattle.exact.proofs.{Order.{refl≤, trans≤, whole≤, nonneg}, Sums.{mono+, le+}, Products.{mul≤, mul_nonneg, suc_times}}
use Rattle.exact.proofs.{Quotients.{div≤}, Consistency.{consistent_exactly, consistent_sum, consistent_product}}
use Rattle.exact.proofs.KnownEnds.{sum_ends, scaled_ends, same_refl, same_trans, same_sum, sum_ends_lem, scaled_ends_lem, scaled_proper}
use Rattle.exact.proofs.{Growing.{Rises, nought}, LogArgument.{near_rises, near_proper, near_nonneg, consistent_near}}
use Rattle.exact.proofs.Halvings.{halvings≤, reduced_low, reduced_high}

one≤two : whole 1 ≤f whole 2
one≤two = whole≤ (omega arith)

-- ---- one end, at one depth: L r is an end of ln_near r

abbrev reduced_by : (Fraction → Fraction) → ℕ → Fraction → Fraction
reduced_by L m q = whole m ·f L (whole 2) +f L (q ÷f whole (2 ^ m))

record Reducible (L : Fraction → Fraction) : Type 0 where
  grows : (a b : Fraction) → whole 1 ≤f a → a ≤f b → L a ≤f L b
  stays : (a : Fraction) → whole 1 ≤f a → whole 0 ≤f L a

module _ {L : Fraction → Fraction} (e : Reducible L) where
  abbrev reduced : ℕ → Fraction → Fraction
  reduced = reduced_by L

  L2 : whole 0 ≤f L (whole 2)
  L2 = e.stays (whole 2) one≤two

  reduced_nonneg : {q : Fraction} → whole 1 ≤f q → whole 0 ≤f reduced (halvings q) q
  reduced_nonneg {q} h = trans≤ (mul_nonneg (nonneg (halvings q)) L2) (le+ (e.stays _ (reduced_low h)))

  same_halvings : {q q' : Fraction} (m m' : ℕ) → m ≡ m' → q ≤f q' → whole 1 ≤f q ÷f whole (2 ^ m) → reduced m q ≤f reduced m' q'
  same_halvings m m' s l h = rw (← s) (mono+ (refl≤ _) (e.grows _ _ h (div≤ (whole (2 ^ m)) l)))

  -- the smaller is at most (m + 1) ln 2
  more_halvings : (q q' : Fraction) (m m' : ℕ) → m < m' → whole 1 ≤f q ÷f whole (2 ^ m) → q ÷f whole (2 ^ m) ≤f whole 2
      → whole 1 ≤f q' ÷f whole (2 ^ m') → reduced m q ≤f reduced m' q'
  more_halvings q q' m m' l lo hi lo' =
      trans≤ (mono+ (refl≤ _) (e.grows _ _ lo hi))
      (trans≤ (suc_times m (L (whole 2))).fro (trans≤ (mul≤ L2 (whole≤ l)) (le+ (e.stays _ lo'))))

  reduced≤ : {q q' : Fraction} → whole 1 ≤f q → q ≤f q' → reduced (halvings q) q ≤f reduced (halvings q') q'
  reduced≤ {q} {q'} h l = go (eq-or-lt_of_le (halvings≤ h l))
    where
      go : (halvings q ≡ halvings q') ⊎ (halvings q < halvings q') → reduced (halvings q) q ≤f reduced (halvings q') q'
      go (inl s) = same_halvings (halvings q) (halvings q') s l (reduced_low h)
      go (inr m) = more_halvings q q' (halvings q) (halvings q') m (reduced_low h) (reduced_high h) (reduced_low (trans≤ h l))

-- ---- both ends

pub up_ends : {q : Fraction} → whole 1 ≤f q → (k : ℕ)
    → SameEnds (ln_up q k) (sum_ends (scaled_ends (whole (halvings q)) (ln_near (whole 2) k)) (ln_near (q ÷f whole (2 ^ halvings q)) k))
unfolding ln_up ◌+x◌ ◌·x◌
up_ends {q} h k =
    same_trans (sum_ends_lem proper (near_proper (reduced_low h) k))
    (same_sum (scaled_ends_lem k (nonneg (halvings q)) (near_proper one≤two k)) (same_refl _))
  where
    proper : Proper (exactly (whole (halvings q)) k ·e ln_near (whole 2) k)
    proper = scaled_proper k (nonneg (halvings q)) (near_proper one≤two k)

lower_end : (k : ℕ) → Reducible (λ r. (ln_near r k).lower)
lower_end k = record { grows = λ a b h l. (near_rises h l k).lowers; stays = λ a h. (near_nonneg h k).lowers }

upper_end : (k : ℕ) → Reducible (λ r. (ln_near r k).upper)
upper_end k = record { grows = λ a b h l. (near_rises h l k).uppers; stays = λ a h. (near_nonneg h k).uppers }

module _ {q : Fraction} (h : whole 1 ≤f q) (k : ℕ) where
  pub up_nonneg : Rises nought (ln_up q k)
  up_nonneg =
      let e = up_ends h k in
      record {
        lowers = trans≤ (reduced_nonneg (lower_end k) h) e.lowers.fro;
        uppers = trans≤ (reduced_nonneg (upper_end k) h)
            e.uppers.fro;
      }

  pub up_rises : {q' : Fraction} → q ≤f q' → Rises (ln_up q k) (ln_up q' k)
  up_rises l =
      let e = up_ends h k in
      let e' = up_ends (trans≤ h l) k in
      record {
        lowers = trans≤ e.lowers.to (trans≤ (reduced≤ (lower_end k) h l) e'.lowers.fro);
        uppers = trans≤ e.uppers.to (trans≤ (reduced≤ (upper_end k) h l) e'.uppers.fro);
      }

pub consistent_up : {q : Fraction} → whole 1 ≤f q → Consistent (ln_up q)
unfolding ln_up
consistent_up {q} h =
    consistent_sum (consistent_product (consistent_exactly (whole (halvings q))) (consistent_near one≤two))
    (consistent_near (reduced_low h))
