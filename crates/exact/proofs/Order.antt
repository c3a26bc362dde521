-- The order of fractions, and the lesser and the greater of two and of four.
use Prim.Native.Nat.{ℕ, ◌≤◌, ◌<◌}
use mathlib.Core.Logic.{◌⊎◌, inl, inr}
use native.Mathlib.Omega.{arith}
use native.Mathlib.Nat.{mul-le-mul_right, mul-lt-mul_of_pos_right, le_of_mul-le-mul_right, lt_of_mul-lt-mul_right, lt_of_not-le}
use Rattle.exact.specs.{Fraction.{Fraction, ◌≤f◌, ◌<f◌, ◌≈f◌, whole, dec_lef, choose, minf, maxf}, Ends.{least, greatest}}

pub refl≤ : (a : Fraction) → a ≤f a
refl≤ a = omega arith

pub trans≤ : {a b c : Fraction} → a ≤f b → b ≤f c → a ≤f c
trans≤ {a} {b} {c} h k =
    record { le = le_of_mul-le-mul_right (omega (arith, mul-le-mul_right c.den h.le, mul-le-mul_right a.den k.le)) b.positive }

pub lt_of_lt_of_le : {a b c : Fraction} → a <f b → b ≤f c → a <f c
lt_of_lt_of_le {a} {b} {c} h k =
    record {
      lt = lt_of_mul-lt-mul_right b.den
          (omega (arith, mul-lt-mul_of_pos_right h.lt c.positive, mul-le-mul_right a.den k.le));
    }

pub lt_of_le_of_lt : {a b c : Fraction} → a ≤f b → b <f c → a <f c
lt_of_le_of_lt {a} {b} {c} h k =
    record {
      lt = lt_of_mul-lt-mul_right b.den
          (omega (arith, mul-le-mul_right c.den h.le, mul-lt-mul_of_pos_right k.lt a.positive));
    }

pub le_of_lt : {a b : Fraction} → a <f b → a ≤f b
le_of_lt h = omega arith

pub not≤ : {a b : Fraction} → ¬ (a ≤f b) → b <f a
not≤ {a} {b} h = record { lt = lt_of_not-le (λ l. h (record { le = l })) }

pub not< : {a b : Fraction} → a <f b → b ≤f a → ⊥
not< h k = omega arith

pub total : (a b : Fraction) → (a ≤f b) ⊎ (b ≤f a)
total a b = go (dec_lef a b)
  where
    go : Dec (a ≤f b) → (a ≤f b) ⊎ (b ≤f a)
    go (yes h) = inl h
    go (no h) = inr (le_of_lt (not≤ h))

-- ---- one value

pub refl≈ : (a : Fraction) → a ≈f a
refl≈ a = record { to = refl≤ a; fro = refl≤ a }

pub sym≈ : {a b : Fraction} → a ≈f b → b ≈f a
sym≈ h = record { to = h.fro; fro = h.to }

pub trans≈ : {a b c : Fraction} → a ≈f b → b ≈f c → a ≈f c
trans≈ h k = record { to = trans≤ h.to k.to; fro = trans≤ k.fro h.fro }

-- ---- whole numbers

pub whole≤ : {m n : ℕ} → m ≤ n → whole m ≤f whole n
unfolding whole
whole≤ h = omega arith

pub whole_pos : {n : ℕ} → 0 < n → whole 0 <f whole n
unfolding whole
whole_pos h = omega arith

pub nonneg : (n : ℕ) → whole 0 ≤f whole n
nonneg n = whole≤ (omega arith)

-- ---- the lesser and the greater of two

-- what holds of each choice holds of the chosen
pub choose_cases : {A Q : Type 0} (P : A → Type 0) (d : Dec Q) {a b : A} → (Q → P a) → (¬ Q → P b) → P (choose d a b)
unfolding choose
choose_cases P (yes h) f g = f h
choose_cases P (no h) f g = g h

pub min_cases : (P : Fraction → Type 0) {a b : Fraction} → (a ≤f b → P a) → (b ≤f a → P b) → P (minf a b)
unfolding minf
min_cases P {a} {b} f g = choose_cases P (dec_lef a b) f (λ h. g (le_of_lt (not≤ h)))

pub max_cases : (P : Fraction → Type 0) {a b : Fraction} → (b ≤f a → P a) → (a ≤f b → P b) → P (maxf a b)
unfolding maxf
max_cases P {a} {b} f g = choose_cases P (dec_lef a b) g (λ h. f (le_of_lt (not≤ h)))

pub min_left : (a b : Fraction) → minf a b ≤f a
min_left a b = min_cases (λ m. m ≤f a) (λ h. refl≤ a) (λ h. h)

pub min_right : (a b : Fraction) → minf a b ≤f b
min_right a b = min_cases (λ m. m ≤f b) (λ h. h) (λ h. refl≤ b)

pub max_left : (a b : Fraction) → a ≤f maxf a b
max_left a b = max_cases (λ m. a ≤f m) (λ h. refl≤ a) (λ h. h)

pub max_right : (a b : Fraction) → b ≤f maxf a b
max_right a b = max_cases (λ m. b ≤f m) (λ h. h) (λ h. refl≤ b)

-- ---- the least and the greatest of four

-- a property of each of four
pub record Each (P : Fraction → Type 0) (a b c d : Fraction) : Type 0 where
  pub first : P a
  pub second : P b
  pub third : P c
  pub fourth : P d

module _ (P : Fraction → Type 0) {a b c d : Fraction} (e : Each P a b c d) where
  pub least_of_lem : P (least a b c d)
  unfolding least
  least_of_lem = min_cases P (λ h. min_cases P (λ h. e.first) (λ h. e.second)) (λ h. min_cases P (λ h. e.third) (λ h. e.fourth))

  pub greatest_of_lem : P (greatest a b c d)
  unfolding greatest
  greatest_of_lem = max_cases P (λ h. max_cases P (λ h. e.first) (λ h. e.second)) (λ h. max_cases P (λ h. e.third) (λ h. e.fourth))

module _ (a b c d : Fraction) where
  pub least≤ : Each (λ o. least a b c d ≤f o) a b c d
  unfolding least
  least≤ =
      record {
        first = trans≤ (min_left _ _) (min_left a b);
        second = trans≤ (min_left _ _) (min_right a b);
        third = trans≤ (min_right _ _) (min_left c d);
        fourth = trans≤ (min_right _ _) (min_right c d);
      }

  pub ≤greatest : Each (λ o. o ≤f greatest a b c d) a b c d
  unfolding greatest
  ≤greatest =
      record {
        first = trans≤ (max_left a b) (max_left _ _);
        second = trans≤ (max_right a b) (max_left _ _);
        third = trans≤ (max_left c d) (max_right _ _);
        fourth = trans≤ (max_right c d) (max_right _ _);
      }
