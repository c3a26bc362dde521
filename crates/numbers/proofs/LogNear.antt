-- ln r for 1 ≤ r ≤ 2 at two near fractions, and how far apart its ends are.
use Prim.Native.Nat.{ℕ}
use lib.Dec.{lit≤}
use Rattle.exact.specs.{Fraction.{Fraction, ◌≤f◌, ◌≈f◌, whole, ◌+f◌, neg, ◌−f◌, ◌·f◌, inv, ◌÷f◌}, Logarithm.{argument, ln_near}}
use Rattle.exact.proofs.{Order.{refl≤, trans≤, refl≈, sym≈, trans≈, nonneg}, Sums.{mono+, cong+, cancel≤, le+, add_assoc, add_comm}}
use Rattle.exact.proofs.{Products.{mul_nonneg, mul_assoc, cong·, whole_mul}, Series.{terms≤}, ExpTerms.{half}}
use Rattle.exact.proofs.LogArgument.{argument_complement, argument_nonneg, argument≤}
use Rattle.numbers.specs.Number.{Near}
use Rattle.numbers.proofs.{Near.{near_more, near_between, near_plus, near_times}, Units.{unit}, Narrow.{near_inverse_one}}
use Rattle.numbers.proofs.Series.{terms_near, terms_zero, tail≤units}

third : argument (whole 2) ≤f half
unfolding argument ◌÷f◌ ◌−f◌ ◌+f◌ ◌·f◌ inv neg whole
third = record { le = lit≤ tt }

argument_one : argument (whole 1) ≤f whole 0
unfolding argument ◌÷f◌ ◌−f◌ ◌+f◌ ◌·f◌ inv neg whole
argument_one = record { le = lit≤ tt }

argument_half : {r : Fraction} → whole 1 ≤f r → r ≤f whole 2 → argument r ≤f half
argument_half h l = trans≤ (argument≤ h l) third

-- from r to r + w the argument grows by at most 2 w
argument_near : {w r r' : Fraction} → whole 1 ≤f r → whole 1 ≤f r' → whole 0 ≤f w → Near w r r'
    → Near (whole 2 ·f w) (argument r) (argument r')
argument_near {w} {r} {r'} h h' nw n =
    let both = trans≤ (argument_complement h').to (argument_complement h).fro in
    record { near = cancel≤ I' (trans≤ both (trans≤ (mono+ (refl≤ z) i.near) turn.to)) }
  where
    one : {a : Fraction} → whole 1 ≤f a → whole 1 ≤f a +f whole 1
    one l = trans≤ l (le+ (nonneg 1))

    z : Fraction
    z = argument r

    I' : Fraction
    I' = whole 2 ·f inv (r' +f whole 1)

    near_one : Near w (r +f whole 1) (r' +f whole 1)
    near_one = near_between (near_plus (whole 1) n) (add_comm (whole 1) r).to (add_comm r' (whole 1)).to

    i : Near (whole 2 ·f w) I' (whole 2 ·f inv (r +f whole 1))
    i = near_times (whole 2) (nonneg 2) (near_inverse_one (one h) (one h') nw near_one)

    turn : z +f (I' +f whole 2 ·f w) ≈f z +f whole 2 ·f w +f I'
    turn = trans≈ (cong+ (refl≈ z) (add_comm _ _)) (sym≈ (add_assoc z _ I'))

-- ---- the ends of ln r

pub lower_near : {w r r' : Fraction} (k : ℕ) → whole 1 ≤f r → r ≤f r' → r' ≤f whole 2 → whole 0 ≤f w → Near w r r'
    → Near (whole 8 ·f w) (ln_near r k).lower (ln_near r' k).lower
unfolding ln_near
lower_near {w} k h l s nw n =
    let h' = trans≤ h l in
    near_more
    (terms_near (argument_nonneg h) (argument≤ h l) (argument_half h' s) (mul_nonneg (nonneg 2) nw) (argument_near h h' nw n) k)
    (trans≤ (mul_assoc (whole 4) (whole 2) w).fro (cong· (whole_mul 4 2) (refl≈ w)).fro)

-- ln 1 is 0
pub lower_one : (k : ℕ) → (ln_near (whole 1) k).lower ≤f whole 0
unfolding ln_near
lower_one k = trans≤ (terms≤ (argument_nonneg (refl≤ (whole 1))) argument_one k) (terms_zero k)

pub ends_near : {r : Fraction} (k : ℕ) → whole 1 ≤f r → r ≤f whole 2 → Near (whole 4 ·f unit k) (ln_near r k).lower (ln_near r k).upper
unfolding ln_near
ends_near k h s = record { near = mono+ (refl≤ _) (tail≤units (argument_nonneg h) (argument_half h s) k) }
