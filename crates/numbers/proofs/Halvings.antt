-- m ln 2 + ln (q / 2^m) at two near fractions, by its lower end. Within one count of halvings by the series; across counts through the
-- powers of two between them, where (m + 1) ln 2 + ln 1 is m ln 2 + ln 2.
use Prim.Native.Nat.{ℕ, suc, ◌^◌, ◌≤◌, ◌<◌}
use mathlib.Core.{Path.{◌≡◌}, Logic.{◌⊎◌, inl, inr}}
use native.Mathlib.{Omega.{arith}, Nat.{eq-or-lt_of_le, pow-le-pow_right}}
use Rattle.exact.specs.{Fraction.{Fraction, ◌≤f◌, ◌≈f◌, whole, ◌+f◌, ◌·f◌, ◌÷f◌}, Logarithm.{ln_near, halvings}}
use Rattle.exact.proofs.Order.{refl≤, trans≤, refl≈, sym≈, trans≈, whole≤, nonneg}
use Rattle.exact.proofs.Sums.{mono+, cong+, cancel≤, le+, add_assoc, add_comm, add-zero}
use Rattle.exact.proofs.{Products.{mul≤, mul_nonneg, mul_comm, mul_one, suc_times}, Quotients.{mul_inv, div≤}, Convolution.{zero-add}}
use Rattle.exact.proofs.{Halvings.{halvings≤, power≤, ≤power, reduced_low, reduced_high}, LogArgument.{near_nonneg}}
use Rattle.numbers.specs.Number.{Near}
use Rattle.numbers.proofs.Near.{near_more, near_between, near_trans, near_sum, near_plus, near_times}
use Rattle.numbers.proofs.TwoPowers.{whole_sums, outrun, whole_power, next_halved, near_halved, one≤two}
use Rattle.numbers.proofs.LogNear.{lower_near, lower_one}

-- ---- the lower end, at one depth

module _ (k : ℕ) where
  abbrev pub L : Fraction → Fraction
  L r = (ln_near r k).lower

  abbrev pub reduced : ℕ → Fraction → Fraction
  reduced m q = whole m ·f L (whole 2) +f L (q ÷f whole (2 ^ m))

  L2_nonneg : whole 0 ≤f L (whole 2)
  L2_nonneg = (near_nonneg one≤two k).lowers

  step : Near (whole 1) (whole 1) (whole 2)
  step = record { near = two.to }
    where
      two : whole 2 ≈f whole 1 +f whole 1
      two = trans≈ (sym≈ (mul_one (whole 2))) (trans≈ (suc_times 1 (whole 1)) (cong+ (mul_one (whole 1)) (refl≈ (whole 1))))

  L2≤ : L (whole 2) ≤f whole 8
  L2≤ =
      let n = lower_near k (refl≤ (whole 1)) one≤two (refl≤ (whole 2)) (nonneg 1) step in
      trans≤ n.near (trans≤ (mono+ (lower_one k) (mul_one (whole 8)).to) (zero-add (whole 8)).to)

  module _ {w : Fraction} (nw : whole 0 ≤f w) where
    -- eight times the width
    abbrev pub w8 : Fraction
    w8 = whole 8 ·f w

    -- from 2^b on: the count's part and the rest's part
    counts_near : {q : Fraction} (b : ℕ) → whole 1 ≤f q → b ≤ halvings q → Near w (whole (2 ^ b)) q
        → Near w8 (whole b ·f L (whole 2)) (whole (halvings q) ·f L (whole 2))
    counts_near {q} b h l n =
        near_more
        (near_between (near_times (L (whole 2)) L2_nonneg (record { near = cancel≤ (whole (2 ^ b)) counted }))
        (mul_comm (L (whole 2)) _).to (mul_comm _ (L (whole 2))).to)
        (mul≤ nw L2≤)
      where
        turn : whole (2 ^ b) +f w +f whole b ≈f whole b +f w +f whole (2 ^ b)
        turn =
            trans≈ (add_comm (whole (2 ^ b) +f w) (whole b))
            (trans≈ (cong+ (refl≈ (whole b)) (add_comm (whole (2 ^ b)) w)) (sym≈ (add_assoc (whole b) w (whole (2 ^ b)))))

        counted : whole (halvings q) +f whole (2 ^ b) ≤f whole b +f w +f whole (2 ^ b)
        counted =
            trans≤ (whole_sums (halvings q) (2 ^ b) (2 ^ halvings q) b (outrun l))
            (trans≤ (mono+ (trans≤ (power≤ h) n.near) (refl≤ (whole b))) turn.to)

    rest_near : {q : Fraction} (b : ℕ) → whole 1 ≤f q → b ≤ halvings q → Near w (whole (2 ^ b)) q
        → Near w8 (whole 0) (L (q ÷f whole (2 ^ halvings q)))
    unfolding ◌÷f◌
    rest_near {q} b h l n =
        let m : ℕ = halvings q in
        let s : Near w (whole (2 ^ m)) q = near_between n (whole≤ (pow-le-pow_right (omega arith) l)) (refl≤ q) in
        let t : Near w (whole 1) (q ÷f whole (2 ^ m)) = near_between (near_halved m nw s) (mul_inv (whole_power m)).to (refl≤ _) in
        near_between (lower_near k (refl≤ (whole 1)) (reduced_low h) (reduced_high h) nw t) (lower_one k) (refl≤ _)

    pub from_power : {q : Fraction} (b : ℕ) → whole 1 ≤f q → b ≤ halvings q → Near w (whole (2 ^ b)) q
        → Near (w8 +f w8) (whole b ·f L (whole 2)) (reduced (halvings q) q)
    from_power {q} b h l n = near_between (near_sum (counts_near b h l n) (rest_near b h l n)) (add-zero _).to (refl≤ _)

    -- in all
    abbrev pub w24 : Fraction
    w24 = w8 +f (w8 +f w8)

    w8_nonneg : whole 0 ≤f w8
    w8_nonneg = mul_nonneg (nonneg 8) nw

    same_count : {q q' : Fraction} (m m' : ℕ) → m ≡ m' → whole 1 ≤f q ÷f whole (2 ^ m) → q' ÷f whole (2 ^ m') ≤f whole 2
        → q ÷f whole (2 ^ m) ≤f q' ÷f whole (2 ^ m) → Near w q q' → Near w8 (reduced m q) (reduced m' q')
    same_count {q} {q'} m m' e lo hi r n =
        rw (← e) (near_plus (whole m ·f L (whole 2)) (lower_near k lo r (rw (← e) at hi) nw (near_halved m nw n)))

    to_power : {q q' : Fraction} → whole 1 ≤f q → halvings q < halvings q' → whole 1 ≤f q' → Near w q q'
        → Near w8 (reduced (halvings q) q) (whole (suc (halvings q)) ·f L (whole 2))
    to_power {q} {q'} h l h' n =
        let m : ℕ = halvings q in
        let p : whole (2 ^ suc m) ≤f q' = trans≤ (whole≤ (pow-le-pow_right (omega arith) l)) (power≤ h') in
        let s : Near w (q ÷f whole (2 ^ m)) (whole 2) =
        near_between (near_halved m nw (near_between n (refl≤ q) p)) (refl≤ _) (next_halved m).fro in
        near_between (near_plus (whole m ·f L (whole 2)) (lower_near k (reduced_low h) (reduced_high h) (refl≤ (whole 2)) nw s))
        (refl≤ _) (suc_times m (L (whole 2))).to

    pub reduced_near : {q q' : Fraction} → whole 1 ≤f q → q ≤f q' → Near w q q'
        → Near w24 (reduced (halvings q) q) (reduced (halvings q') q')
    reduced_near {q} {q'} h l n = go (eq-or-lt_of_le (halvings≤ h l))
      where
        h' : whole 1 ≤f q'
        h' = trans≤ h l

        go : (halvings q ≡ halvings q') ⊎ (halvings q < halvings q') → Near w24 (reduced (halvings q) q) (reduced (halvings q') q')
        go (inl e) =
            near_more (same_count (halvings q) (halvings q') e (reduced_low h) (reduced_high h') (div≤ _ l) n)
            (le+ (trans≤ w8_nonneg (le+ w8_nonneg)))
        go (inr s) = near_trans (to_power h s h' n) (from_power (suc (halvings q)) h' s (near_between n (≤power h) (refl≤ q')))
