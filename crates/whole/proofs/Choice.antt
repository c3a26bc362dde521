-- The lesser and the greater of two signed numbers: each is one of the two, and in order with both.
use Prim.Native.Nat.{ℕ, ◌≤◌}
use mathlib.Core.{Path.{◌≡◌, refl, ap}, Bool.{Bool, true, false, not, cond}}
use native.Mathlib.{Nat.{le_antisymm}, Omega.{arith}}
use lib.{Dec.{T, leb→le, nleb→lt, le→leb}, IntN.{ℤ, pos, negsuc}, Signed.{◌≤ℤ◌, le_z, le_z_yes, ≤ℤ_refl}}
use Rattle.std.specs.Int.{int_min, int_max}
use Rattle.whole.specs.Whole.{min_z, max_z}
use Rattle.whole.proofs.Signed.{le_halves, halves_le}

pub ≤ℤ_trans : {a b c : ℤ} → a ≤ℤ b → b ≤ℤ c → a ≤ℤ c
≤ℤ_trans {a} {b} {c} h k = halves_le a c (omega (arith, le_halves h, le_halves k))

pub pos≤ : {m n : ℕ} → m ≤ n → pos m ≤ℤ pos n
pos≤ {m} {n} h = record { le = le→leb m n h }

pub le_pos : {m n : ℕ} → pos m ≤ℤ pos n → m ≤ n
le_pos {m} {n} h = leb→le m n h.le

le_z_no : (a b : ℤ) → T (not (le_z a b)) → b ≤ℤ a
le_z_no (pos a) (pos b) t = halves_le (pos b) (pos a) (omega (arith, nleb→lt a b t))
le_z_no (pos a) (negsuc b) t = record { le = tt }
le_z_no (negsuc a) (pos b) t = absurd t
le_z_no (negsuc a) (negsuc b) t = halves_le (negsuc b) (negsuc a) (omega (arith, nleb→lt b a t))

chosen : (P : ℤ → Type 0) (t : Bool) {a b : ℤ} → (T t → P a) → (T (not t) → P b) → P (cond t a b)
chosen P true f g = f tt
chosen P false f g = g tt

-- what holds of each where it is chosen holds of the chosen
pub min_cases : (P : ℤ → Type 0) (a b : ℤ) → (a ≤ℤ b → P a) → (b ≤ℤ a → P b) → P (min_z a b)
unfolding min_z
min_cases P a b f g = chosen P (le_z a b) (λ t. f (le_z_yes t)) (λ t. g (le_z_no a b t))

pub max_cases : (P : ℤ → Type 0) (a b : ℤ) → (a ≤ℤ b → P b) → (b ≤ℤ a → P a) → P (max_z a b)
unfolding max_z
max_cases P a b f g = chosen P (le_z a b) (λ t. f (le_z_yes t)) (λ t. g (le_z_no a b t))

-- `a.min(b)` and `a.max(b)` of std are these
pub min_is : (a b : ℤ) → int_min a b ≡ min_z a b
unfolding min_z
min_is (pos a) (pos b) = grind arith
min_is (pos a) (negsuc b) = refl
min_is (negsuc a) (pos b) = refl
min_is (negsuc a) (negsuc b) = grind arith

pub max_is : (a b : ℤ) → int_max a b ≡ max_z a b
unfolding max_z
max_is (pos a) (pos b) = grind arith
max_is (pos a) (negsuc b) = refl
max_is (negsuc a) (pos b) = refl
max_is (negsuc a) (negsuc b) = grind arith

pub min_left : (a b : ℤ) → min_z a b ≤ℤ a
min_left a b = min_cases (λ z. z ≤ℤ a) a b (λ h. ≤ℤ_refl a) (λ h. h)

pub min_right : (a b : ℤ) → min_z a b ≤ℤ b
min_right a b = min_cases (λ z. z ≤ℤ b) a b (λ h. h) (λ h. ≤ℤ_refl b)

pub max_left : (a b : ℤ) → a ≤ℤ max_z a b
max_left a b = max_cases (λ z. a ≤ℤ z) a b (λ h. h) (λ h. ≤ℤ_refl a)

pub max_right : (a b : ℤ) → b ≤ℤ max_z a b
max_right a b = max_cases (λ z. b ≤ℤ z) a b (λ h. ≤ℤ_refl b) (λ h. h)

-- ---- of two naturals in order

module _ {m n : ℕ} (h : m ≤ n) where
  same : pos n ≤ℤ pos m → pos n ≡ pos m
  same k = ap pos (le_antisymm (le_pos k) h)

  pub min_rising : min_z (pos m) (pos n) ≡ pos m
  min_rising = min_cases (λ z. z ≡ pos m) (pos m) (pos n) (λ k. refl) same

  pub max_rising : max_z (pos m) (pos n) ≡ pos n
  max_rising = max_cases (λ z. z ≡ pos n) (pos m) (pos n) (λ k. refl) (λ k. cc (same k))

  pub min_falling : min_z (pos n) (pos m) ≡ pos m
  min_falling = min_cases (λ z. z ≡ pos m) (pos n) (pos m) same (λ k. refl)

  pub max_falling : max_z (pos n) (pos m) ≡ pos n
  max_falling = max_cases (λ z. z ≡ pos n) (pos n) (pos m) (λ k. cc (same k)) (λ k. refl)
