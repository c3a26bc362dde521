-- How far apart the ends of e^q and e^q' are at most, for q and q' from 0 to B that are w apart; and that as a multiple of 1 / 2^k.
use Prim.Native.Nat.{ℕ, ◌*◌, ◌^◌}
use Rattle.exact.{specs.Fraction.{Fraction, ◌≤f◌, whole, ◌+f◌, ◌·f◌, powf}, proofs.{Order.{refl≤, trans≤, nonneg}, Sums.{mono+, le+}}}
use Rattle.exact.proofs.{Products.{mul_left≤, mul_nonneg, mul_assoc, add_mul}, Series.{pow_nonneg}}
use Rattle.numbers.proofs.Units.{unit, units_nonneg}

-- the power, and bounds of the powers of the ends and of the slack
abbrev pub count : ℕ → ℕ
count B = 2 ^ (2 * B)

abbrev pub most : ℕ → Fraction
most B = powf (whole 6) (count B)

abbrev pub slacks : ℕ → Fraction → Fraction
slacks B v = whole (count B) ·f (powf (whole 3) (count B) ·f v)

abbrev pub exp_spread : Fraction → ℕ → ℕ → Fraction
exp_spread w B k = most B ·f slacks B (whole 2 ·f unit k) +f whole (count B) ·f (most B ·f (whole 4 ·f w +f whole 4 ·f unit k))

pub exp_spread_nonneg : {w : Fraction} (B k : ℕ) → whole 0 ≤f w → whole 0 ≤f exp_spread w B k
exp_spread_nonneg B k nw =
    let N = count B in
    let p = pow_nonneg (nonneg 6) N in
    let W = trans≤ (mul_nonneg (nonneg 4) nw) (le+ (units_nonneg 4 k)) in
    trans≤ (mul_nonneg p (mul_nonneg (nonneg N) (mul_nonneg (pow_nonneg (nonneg 3) N) (units_nonneg 2 k))))
    (le+ (mul_nonneg (nonneg N) (mul_nonneg p W)))

abbrev pub exp_rate : Fraction → ℕ → Fraction
exp_rate a B = most B ·f slacks B (whole 2) +f whole (count B) ·f (most B ·f (whole 4 ·f a +f whole 4))

-- a factor before a multiple
before : {x : Fraction} (y u c : Fraction) → whole 0 ≤f c → x ≤f y ·f u → c ·f x ≤f c ·f y ·f u
before y u c n h = trans≤ (mul_left≤ n h) (mul_assoc c y u).fro

pub exp_spread≤ : (a : Fraction) (B k : ℕ) → exp_spread (a ·f unit k) B k ≤f exp_rate a B ·f unit k
exp_spread≤ a B k =
    let N = count B in
    let u : Fraction = unit k in
    let p = pow_nonneg (nonneg 6) N in
    let one = before _ u (whole N) (nonneg N) (before _ u (powf (whole 3) N) (pow_nonneg (nonneg 3) N) (refl≤ (whole 2 ·f u))) in
    let sum = trans≤ (mono+ (mul_assoc (whole 4) a u).fro (refl≤ (whole 4 ·f u))) (add_mul (whole 4 ·f a) (whole 4) u).fro in
    trans≤ (mono+ (before _ u (most B) p one) (before _ u (whole N) (nonneg N) (before _ u (most B) p sum))) (add_mul _ _ u).fro
