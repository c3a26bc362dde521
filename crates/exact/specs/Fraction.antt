-- §5.1: fractions with a sign, (plus − minus) / den. One value has many fractions: compare them by ≤f and <f.
use Rattle.std.specs.Prelude.{ℕ, zero, suc, ◌+◌, ◌-◌, ◌*◌, ◌^◌, max, ◌≤◌, ◌<◌}
use native.Mathlib.{Nat.{mul-pos, le-max_left, zero-lt-suc, one-le-pow}, Decide.{dec_le}}

pub record Fraction : Type 0 where
  pub plus : ℕ
  pub minus : ℕ
  pub den : ℕ
  pub positive : 0 < den

infix 50 ◌≤f◌ ◌<f◌ ◌≈f◌
infixl 65 ◌+f◌ ◌−f◌
infixl 70 ◌·f◌ ◌÷f◌
-- the order, multiplied out
pub record ◌≤f◌ (a b : Fraction) : Type 0 where
  pub le : a.plus * b.den + b.minus * a.den ≤ b.plus * a.den + a.minus * b.den

pub record ◌<f◌ (a b : Fraction) : Type 0 where
  pub lt : a.plus * b.den + b.minus * a.den < b.plus * a.den + a.minus * b.den

-- two fractions of one value
pub record ◌≈f◌ (a b : Fraction) : Type 0 where
  pub to : a ≤f b
  pub fro : b ≤f a

-- a whole number
unfoldable pub whole : ℕ → Fraction
whole n = record { plus = n; minus = 0; den = 1; positive = zero-lt-suc 0 }

-- n · 10^−e, as 155 and 2 for 1.55
unfoldable pub decimal : ℕ → ℕ → Fraction
decimal n e = record { plus = n; minus = 0; den = 10 ^ e; positive = one-le-pow e 10 (zero-lt-suc 9) }

unfoldable pub ◌+f◌ : Fraction → Fraction → Fraction
a +f b =
    record {
      plus = a.plus * b.den + b.plus * a.den;
      minus = a.minus * b.den + b.minus * a.den;
      den = a.den * b.den;
      positive = mul-pos a.positive b.positive;
    }

unfoldable pub neg : Fraction → Fraction
neg a = record { plus = a.minus; minus = a.plus; den = a.den; positive = a.positive }

unfoldable pub ◌−f◌ : Fraction → Fraction → Fraction
a −f b = a +f neg b

unfoldable pub ◌·f◌ : Fraction → Fraction → Fraction
a ·f b =
    record {
      plus = a.plus * b.plus + a.minus * b.minus;
      minus = a.plus * b.minus + a.minus * b.plus;
      den = a.den * b.den;
      positive = mul-pos a.positive b.positive;
    }

-- one over a positive fraction; of any other it has no meaning
unfoldable pub inv : Fraction → Fraction
inv a =
    record { plus = a.den; minus = 0; den = max 1 (a.plus - a.minus); positive = le-max_left 1 (a.plus - a.minus) }

-- by a positive fraction
unfoldable pub ◌÷f◌ : Fraction → Fraction → Fraction
a ÷f b = a ·f inv b

-- the numerator of a fraction that is not negative
unfoldable pub top : Fraction → ℕ
top a = a.plus - a.minus

unfoldable pub powf : Fraction → ℕ → Fraction
powf a zero = whole 1
powf a (suc n) = powf a n ·f a

-- the first k of a sequence, added up
unfoldable pub sum_of : (ℕ → Fraction) → ℕ → Fraction
sum_of t zero = whole 0
sum_of t (suc k) = sum_of t k +f t k

-- ---- which of two is less

unfoldable pub dec_lef : (a b : Fraction) → Dec (a ≤f b)
dec_lef a b = go (dec_le (a.plus * b.den + b.minus * a.den) (b.plus * a.den + a.minus * b.den))
  where
    go : Dec (a.plus * b.den + b.minus * a.den ≤ b.plus * a.den + a.minus * b.den) → Dec (a ≤f b)
    go (yes h) = yes (record { le = h })
    go (no h) = no (λ k. h k.le)

-- the first where the answer is yes, else the second
unfoldable pub choose : {A P : Type 0} → Dec P → A → A → A
choose (yes h) x y = x
choose (no h) x y = y

-- the lesser and the greater of two
unfoldable pub minf : Fraction → Fraction → Fraction
minf a b = choose (dec_lef a b) a b

unfoldable pub maxf : Fraction → Fraction → Fraction
maxf a b = choose (dec_lef a b) b a
