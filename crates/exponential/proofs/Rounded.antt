-- The whole numbers of the calculation against the fractions that they stand for, each rounded down or up.
use Prim.Native.Nat.{ℕ, zero, suc, ◌+◌, ◌*◌, ◌/◌, ◌^◌, ◌≤◌, ◌<◌}
use mathlib.Core.Path.{◌≡◌, refl, ap}
use native.Mathlib.Omega.{arith}
use lib.{Dec.{lit<}, Pow.{pow_pos}}
use Rattle.exact.specs.{Fraction.{Fraction, ◌≤f◌, ◌≈f◌, whole, ◌+f◌, ◌·f◌, inv, ◌÷f◌, powf}, Exponential.{exp_terms}, Depth.{work_depth}}
use Rattle.exact.{specs.Reported.{Scale, ten, over}, proofs.{Order.{refl≤, trans≤, sym≈, nonneg}, Sums.{mono+, le+}}}
use Rattle.exact.proofs.{Products.{mul_nonneg, one-mul}, Quotients.{clamped, div≤, inv_nonneg}, Series.{pow_nonneg}, Squarings.{pow_square}}
use Rattle.exact.proofs.{Doublings.{halved}, Horner.{nested, nested_terms}}
use Rattle.exact.proofs.Rounding.{units, Toward, toward_trans, toward_sum, toward_product, toward_same, units_nonneg, units_sum, Is}
use Rattle.exact.proofs.Rounding.{rounded, product_is}
use Rattle.exponential.specs.Ends.{unit, levels, nested_of, inverse_of, squared_of}

-- n billionths
abbrev pub parts : ℕ → Fraction
parts = units (ten 9)

pub parts≤ : {m n : ℕ} → m ≤ n → parts m ≤f parts n
unfolding over ten
parts≤ l = omega arith

-- n quarters of a billionth
unfoldable pub quarters : Scale
quarters = record { count = unit; positive = lit< tt }

abbrev pub fine : ℕ → Fraction
fine = units quarters

pub fine≤ : {m n : ℕ} → m ≤ n → fine m ≤f fine n
unfolding over quarters
fine≤ l = omega arith

-- ---- what is rounded

halved_is : (q m : ℕ) → Is quarters (4 * q) (2 ^ m) (halved m (parts q))
unfolding over ten quarters whole ◌·f◌ inv ◌÷f◌
halved_is q m =
    let e : (inv (whole (2 ^ m))).den ≡ 2 ^ m = clamped (pow_pos m) in
    record { divisor = pow_pos m; value = omega (arith, ap (λ t. q * t) e) }

level_is : (y s i : ℕ) → Is quarters (y * s) (unit * suc i) ((fine y ·f fine s) ÷f whole (suc i))
unfolding over quarters whole ◌·f◌ inv ◌÷f◌
level_is y s i =
    let e : (inv (whole (suc i))).den ≡ suc i = omega arith in
    record { divisor = omega arith; value = omega (arith, ap (λ t. y * s * t) e) }

pub inverse_is : {s : ℕ} → 0 < s → Is quarters (unit * unit) s (inv (fine s))
unfolding over quarters inv
inverse_is {s} h =
    let e : (inv (fine s)).den ≡ s = omega arith in
    record { divisor = h; value = omega (arith, e) }

quarters_is : (l : ℕ) → Is (ten 9) l 4 (fine l)
unfolding over ten quarters
quarters_is l = record { divisor = omega arith; value = omega arith }

-- ---- each step

pub quarters_toward : (up l : ℕ) → Toward up (parts (l / 4 + up)) (fine l)
quarters_toward up l = rounded (quarters_is l) up

pub argument_toward : (up q m : ℕ) → Toward up (fine (4 * q / 2 ^ m + up)) (halved m (parts q))
argument_toward up q m = rounded (halved_is q m) up

unit_is : whole 1 ≈f fine unit
unfolding over quarters whole
unit_is = omega arith

toward_divided : {up : ℕ} {a b : Fraction} (c : Fraction) → Toward up a b → Toward up (a ÷f c) (b ÷f c)
toward_divided c h = record { down = λ e. div≤ c (h.down e); upward = λ l. div≤ c (h.upward l) }

nested_nonneg : {x : Fraction} → whole 0 ≤f x → (i n : ℕ) → whole 0 ≤f nested x i n
unfolding nested ◌÷f◌
nested_nonneg h i zero = nonneg 1
nested_nonneg h i (suc n) = trans≤ (nonneg 1) (le+ (mul_nonneg (mul_nonneg h (nested_nonneg h (suc i) n)) (inv_nonneg _)))

module _ {x : Fraction} (nx : whole 0 ≤f x) {up : ℕ} (y : ℕ) (h : Toward up (fine y) x) where
  nested_toward : (i n : ℕ) → Toward up (fine (nested_of up y i n)) (nested x i n)
  unfolding nested_of nested
  nested_toward i zero = toward_same up (sym≈ unit_is)
  nested_toward i (suc n) =
      let s = nested_of up y (suc i) n in
      toward_trans (toward_same up (units_sum quarters unit _))
      (toward_sum (toward_same up (sym≈ unit_is))
      (toward_trans (rounded (level_is y s i) up)
      (toward_divided (whole (suc i))
      (toward_product nx (units_nonneg quarters s) (units_nonneg quarters y) (nested_nonneg nx (suc i) n) h (nested_toward (suc i) n)))))

  -- as many terms as the depth has
  pub terms_toward : Toward up (fine (nested_of up y 0 levels)) (exp_terms x work_depth)
  terms_toward = toward_trans (nested_toward 0 levels) (toward_same up (nested_terms x levels))

-- downward
pub inverse_below : {s : ℕ} → 0 < s → fine (inverse_of 0 s) ≤f inv (fine s)
unfolding inverse_of
inverse_below h = (rounded (inverse_is h) 0).down refl

-- upward, with a unit more
pub inverse_above : (s : ℕ) → 0 < s → inv (fine s) +f fine 1 ≤f fine (inverse_of 1 s)
unfolding inverse_of
inverse_above s h =
    let r = unit * unit / s in
    let m : r + 1 + 1 ≤ inverse_of 1 s = omega arith in
    trans≤ (mono+ ((rounded (inverse_is h) 1).upward (lit< tt)) (refl≤ _)) (trans≤ (units_sum quarters (r + 1) 1).fro (fine≤ m))

pub squared_toward : {up : ℕ} (v : ℕ) {z : Fraction} → whole 0 ≤f z → Toward up (fine v) z → (m : ℕ)
    → Toward up (fine (squared_of up v m)) (powf z (2 ^ m))
unfolding squared_of powf quarters
squared_toward {up} v {z} nz h zero = toward_trans h (toward_same up (sym≈ (one-mul z)))
squared_toward {up} v {z} nz h (suc m) =
    let s = squared_of up v m in
    let n = units_nonneg quarters s in
    let p = pow_nonneg nz (2 ^ m) in
    let t = squared_toward v nz h m in
    toward_trans (rounded (product_is quarters s s) up) (toward_trans (toward_product p n n p t t) (toward_same up (sym≈ (pow_square z m))))
