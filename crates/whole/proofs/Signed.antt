-- The bridge from ℤ to `omega`: for each operation, an equation or an order of the halves `plus` and `minus`, which are naturals.
use Prim.Native.Nat.{ℕ, zero, suc, ◌+◌, ◌-◌, ◌*◌, ◌≤◌, ◌<◌}
use mathlib.Core.{Path.{◌≡◌, refl, ◌∙◌}, Bool.{Bool, true, false, not, cond}, Logic.{◌⊎◌, inl, inr, ⊎_elim}}
use native.Mathlib.{Omega.{arith}, Nat.{div-mul-le_self, div-le_self, lt-div-mul-add}}
use lib.{Dec.{T, ltb, ltb→lt, lt→ltb, nltb→le, leb→le, le→leb}, IntN.{ℤ, pos, negsuc, neg_ℤ, nat_abs, sub_ℕ, ◌+ℤ◌, ◌-ℤ◌, ◌*ℤ◌}}
use lib.Signed.{◌≤ℤ◌, ◌<ℤ◌}
use Rattle.whole.specs.{Signed.{plus, minus}, Whole.{floor_z}}

-- one half is 0, and the other the size
pub halves : (z : ℤ) → (plus z ≡ 0) ⊎ (minus z ≡ 0)
halves (pos n) = inr refl
halves (negsuc n) = inl refl

pub size_is : (z : ℤ) → nat_abs z ≡ plus z + minus z
size_is (pos n) = omega arith
size_is (negsuc n) = omega arith

-- ---- minus a number, sums and differences

pub neg_plus : (z : ℤ) → plus (neg_ℤ z) ≡ minus z
neg_plus (pos zero) = refl
neg_plus (pos (suc n)) = refl
neg_plus (negsuc n) = refl

pub neg_minus : (z : ℤ) → minus (neg_ℤ z) ≡ plus z
neg_minus (pos zero) = refl
neg_minus (pos (suc n)) = refl
neg_minus (negsuc n) = refl

pub sub_is : (a b : ℕ) → plus (sub_ℕ a b) + b ≡ minus (sub_ℕ a b) + a
sub_is a b = go (ltb a b) (ltb→lt a b) (nltb→le a b)
  where
    go : (t : Bool) → (T t → a < b) → (T (not t) → b ≤ a)
        → plus (cond t (negsuc (b - suc a)) (pos (a - b))) + b ≡ minus (cond t (negsuc (b - suc a)) (pos (a - b))) + a
    go true h k = omega (arith, h tt)
    go false h k = omega (arith, k tt)

pub sum_is : (a b : ℤ) → plus (a +ℤ b) + (minus a + minus b) ≡ minus (a +ℤ b) + (plus a + plus b)
sum_is (pos a) (pos b) = omega arith
sum_is (pos a) (negsuc b) = omega (arith, sub_is a (suc b))
sum_is (negsuc a) (pos b) = omega (arith, sub_is b (suc a))
sum_is (negsuc a) (negsuc b) = omega arith

pub difference_is : (a b : ℤ) → plus (a -ℤ b) + (minus a + plus b) ≡ minus (a -ℤ b) + (plus a + minus b)
difference_is a b = omega (arith, sum_is a (neg_ℤ b), neg_plus b, neg_minus b)

-- ---- products

pub mul_plus : (a b : ℤ) → plus (a *ℤ b) ≡ plus a * plus b + minus a * minus b
mul_plus (pos a) (pos b) = omega arith
mul_plus (pos a) (negsuc b) = neg_plus (pos (a * suc b)) ∙ omega arith
mul_plus (negsuc a) (pos b) = neg_plus (pos (suc a * b)) ∙ omega arith
mul_plus (negsuc a) (negsuc b) = omega arith

pub mul_minus : (a b : ℤ) → minus (a *ℤ b) ≡ plus a * minus b + minus a * plus b
mul_minus (pos a) (pos b) = omega arith
mul_minus (pos a) (negsuc b) = neg_minus (pos (a * suc b)) ∙ omega arith
mul_minus (negsuc a) (pos b) = neg_minus (pos (suc a * b)) ∙ omega arith
mul_minus (negsuc a) (negsuc b) = omega arith

pub scale_plus : (z : ℤ) (k : ℕ) → plus (z *ℤ pos k) ≡ plus z * k
scale_plus z k = mul_plus z (pos k) ∙ omega arith

pub scale_minus : (z : ℤ) (k : ℕ) → minus (z *ℤ pos k) ≡ minus z * k
scale_minus z k = mul_minus z (pos k) ∙ omega arith

-- ---- the order

pub le_halves : {a b : ℤ} → a ≤ℤ b → plus a + minus b ≤ plus b + minus a
le_halves {a = pos a} {b = pos b} h = omega (arith, leb→le a b h.le)
le_halves {a = pos a} {b = negsuc b} h = absurd h.le
le_halves {a = negsuc a} {b = pos b} h = omega arith
le_halves {a = negsuc a} {b = negsuc b} h = omega (arith, leb→le b a h.le)

pub halves_le : (a b : ℤ) → plus a + minus b ≤ plus b + minus a → a ≤ℤ b
halves_le (pos a) (pos b) h = record { le = le→leb a b (omega arith) }
halves_le (pos a) (negsuc b) h = absurd (omega arith)
halves_le (negsuc a) (pos b) h = record { le = tt }
halves_le (negsuc a) (negsuc b) h = record { le = le→leb b a (omega arith) }

pub lt_halves : {a b : ℤ} → a <ℤ b → plus a + minus b < plus b + minus a
lt_halves {a = pos a} {b = pos b} h = omega (arith, ltb→lt a b h.lt)
lt_halves {a = pos a} {b = negsuc b} h = absurd h.lt
lt_halves {a = negsuc a} {b = pos b} h = omega arith
lt_halves {a = negsuc a} {b = negsuc b} h = omega (arith, ltb→lt b a h.lt)

pub halves_lt : (a b : ℤ) → plus a + minus b < plus b + minus a → a <ℤ b
halves_lt (pos a) (pos b) h = record { lt = lt→ltb a b (omega arith) }
halves_lt (pos a) (negsuc b) h = absurd (omega arith)
halves_lt (negsuc a) (pos b) h = record { lt = tt }
halves_lt (negsuc a) (negsuc b) h = record { lt = lt→ltb b a (omega arith) }

-- ---- the quotient rounded down: q · d ≤ z < (q + 1) · d

pub floor_below : (z : ℤ) {d : ℕ} → 0 < d → plus (floor_z z d) * d + minus z ≤ plus z + minus (floor_z z d) * d
unfolding floor_z
floor_below (pos a) {d} h = omega (arith, div-mul-le_self a d)
floor_below (negsuc a) {d} h = omega (arith, lt-div-mul-add {a = a} h)

pub floor_above : (z : ℤ) {d : ℕ} → 0 < d → plus z + minus (floor_z z d) * d < plus (floor_z z d) * d + minus z + d
unfolding floor_z
floor_above (pos a) {d} h = omega (arith, lt-div-mul-add {a = a} h)
floor_above (negsuc a) {d} h = omega (arith, div-mul-le_self a d)

-- ---- sizes

pub size_neg : (z : ℤ) → nat_abs (neg_ℤ z) ≡ nat_abs z
size_neg z = omega (arith, size_is z, size_is (neg_ℤ z), neg_plus z, neg_minus z)

pub size_sum : (a b : ℤ) → nat_abs (a +ℤ b) ≤ nat_abs a + nat_abs b
size_sum a b =
    let e = sum_is a b in
    let k = size_is (a +ℤ b) in
    ⊎_elim (λ h. omega (arith, size_is a, size_is b)) (λ h. omega (arith, size_is a, size_is b)) (halves (a +ℤ b))

pub size_difference : (a b : ℤ) → nat_abs (a -ℤ b) ≤ nat_abs a + nat_abs b
size_difference a b = omega (arith, size_sum a (neg_ℤ b), size_neg b)

pub size_product : (a b : ℤ) → nat_abs (a *ℤ b) ≡ nat_abs a * nat_abs b
size_product (pos a) (pos b) = refl
size_product (pos a) (negsuc b) = size_neg (pos (a * suc b))
size_product (negsuc a) (pos b) = size_neg (pos (suc a * b))
size_product (negsuc a) (negsuc b) = refl

pub size_floor : (z : ℤ) (d : ℕ) → nat_abs (floor_z z d) ≤ nat_abs z
unfolding floor_z
size_floor (pos a) d = div-le_self a d
size_floor (negsuc a) d = omega (arith, div-le_self a d)
