-- A point of a pair is a fraction between its ends. A point of A and a point of B give a point of their combination, for each operation:
-- all further laws of pairs depend on that.
use mathlib.Core.Logic.{⊎_elim}
use Rattle.exact.specs.{Fraction.{Fraction, ◌≤f◌, ◌<f◌, ◌≈f◌, whole, ◌+f◌, ◌−f◌, ◌·f◌, inv, ◌÷f◌, minf, maxf}, Ends.{Ends, combine}}
use Rattle.exact.specs.Depth.{Within, Proper, Positive}
use Rattle.exact.proofs.Order.{refl≤, trans≤, lt_of_lt_of_le, total, min_cases, max_cases, min_left, min_right, max_left, max_right}
use Rattle.exact.proofs.{Outcomes.{lower≤, ≤upper}, Sums.{mono+, mono−}, Products.{mul≤, mul≥, mul_left≤, mul_left≥}}
use Rattle.exact.proofs.Quotients.{inv≤}

pub record Point (p : Fraction) (A : Ends) : Type 0 where
  pub low : A.lower ≤f p
  pub high : p ≤f A.upper

pub lower_point : {A : Ends} → Proper A → Point A.lower A
lower_point {A} h = record { low = refl≤ A.lower; high = h.proper }

pub upper_point : {A : Ends} → Proper A → Point A.upper A
upper_point {A} h = record { low = h.proper; high = refl≤ A.upper }

pub point_within : {p : Fraction} {A B : Ends} → Within A B → Point p A → Point p B
point_within w h = record { low = trans≤ w.low h.low; high = trans≤ h.high w.high }

pub point_same : {p q : Fraction} {A : Ends} → p ≈f q → Point q A → Point p A
point_same e h = record { low = trans≤ h.low e.fro; high = trans≤ e.to h.high }

pub point_proper : {p : Fraction} {A : Ends} → Point p A → Proper A
point_proper h = record { proper = trans≤ h.low h.high }

-- ---- an operation on points against the combination of pairs

-- the operation takes points of A and of B to points of the combination
abbrev pub Pointwise : (Fraction → Fraction → Fraction) → Ends → Ends → Type 0
Pointwise op A B = (x y : Fraction) → Point x A → Point y B → Point (op x y) (combine op A B)

pub proper_combine : (op : Fraction → Fraction → Fraction) {A B : Ends} → Pointwise op A B → Proper A → Proper B → Proper (combine op A B)
proper_combine op h pa pb = point_proper (h _ _ (lower_point pa) (lower_point pb))

-- w lies between u and v, in whichever order these are
pub record Between (u v w : Fraction) : Type 0 where
  pub low : minf u v ≤f w
  pub high : w ≤f maxf u v

between : {u v w : Fraction} → u ≤f w → w ≤f v → Between u v w
between {u} {v} h k = record { low = trans≤ (min_left u v) h; high = trans≤ k (max_right u v) }

turned : {u v w : Fraction} → v ≤f w → w ≤f u → Between u v w
turned {u} {v} h k = record { low = trans≤ (min_right u v) h; high = trans≤ k (max_left u v) }

-- between what lies between is between
outcome : {u v l h w : Fraction} → Between u v w → l ≤f u → l ≤f v → u ≤f h → v ≤f h → (l ≤f w) × (w ≤f h)
outcome {l = l} {h} b lu lv uh vh =
    (trans≤ (min_cases (λ m. l ≤f m) (λ _. lu) (λ _. lv)) b.low, trans≤ b.high (max_cases (λ m. m ≤f h) (λ _. uh) (λ _. vh)))

swap : {u v w : Fraction} → Between u v w → Between v u w
swap {u} {v} b =
    let p = outcome b (min_right v u) (min_left v u) (max_right v u) (max_left v u) in
    record { low = p.0; high = p.1 }

-- where op lies between its values at the ends, in its first argument at y, and in its second at each end of A
pub combine_point : (op : Fraction → Fraction → Fraction) (A B : Ends) (x y : Fraction)
    → Between (op A.lower y) (op A.upper y) (op x y) → Between (op A.lower B.lower) (op A.lower B.upper) (op A.lower y)
    → Between (op A.upper B.lower) (op A.upper B.upper) (op A.upper y) → Point (op x y) (combine op A B)
combine_point op A B x y b bl bu =
    let lows = lower≤ op A B in
    let highs = ≤upper op A B in
    let l = outcome bl lows.first lows.second highs.first highs.second in
    let u = outcome bu lows.third lows.fourth highs.third highs.fourth in
    let p = outcome b l.0 u.0 l.1 u.1 in
    record { low = p.0; high = p.1 }

-- ---- each operation

pub sum_point : (A B : Ends) → Pointwise ◌+f◌ A B
sum_point A B x y h k =
    combine_point ◌+f◌ A B x y (between (mono+ h.low (refl≤ y)) (mono+ h.high (refl≤ y))) (at A.lower) (at A.upper)
  where
    at : (a : Fraction) → Between (a +f B.lower) (a +f B.upper) (a +f y)
    at a = between (mono+ (refl≤ a) k.low) (mono+ (refl≤ a) k.high)

pub difference_point : (A B : Ends) → Pointwise ◌−f◌ A B
difference_point A B x y h k =
    combine_point ◌−f◌ A B x y (between (mono− h.low (refl≤ y)) (mono− h.high (refl≤ y))) (at A.lower) (at A.upper)
  where
    at : (a : Fraction) → Between (a −f B.lower) (a −f B.upper) (a −f y)
    at a = turned (mono− (refl≤ a) k.high) (mono− (refl≤ a) k.low)

-- along a, by its sign
by_sign : (a : Fraction) {u v w : Fraction} → (a ≤f whole 0 → (v ≤f w) × (w ≤f u)) → (whole 0 ≤f a → (u ≤f w) × (w ≤f v)) → Between u v w
by_sign a f g = ⊎_elim (λ n. turned (f n).0 (f n).1) (λ n. between (g n).0 (g n).1) (total a (whole 0))

by_factor : (a : Fraction) {c y d : Fraction} → c ≤f y → y ≤f d → Between (c ·f a) (d ·f a) (y ·f a)
by_factor a h k = by_sign a (λ n. (mul≥ n k, mul≥ n h)) (λ n. (mul≤ n h, mul≤ n k))

by_factor_left : (a : Fraction) {c y d : Fraction} → c ≤f y → y ≤f d → Between (a ·f c) (a ·f d) (a ·f y)
by_factor_left a h k = by_sign a (λ n. (mul_left≥ n k, mul_left≥ n h)) (λ n. (mul_left≤ n h, mul_left≤ n k))

pub product_point : (A B : Ends) → Pointwise ◌·f◌ A B
product_point A B x y h k =
    combine_point ◌·f◌ A B x y (by_factor y h.low h.high) (by_factor_left A.lower k.low k.high)
    (by_factor_left A.upper k.low k.high)

-- along a positive divisor
by_divisor : (a : Fraction) {c y d : Fraction} → whole 0 <f c → c ≤f y → y ≤f d → Between (a ÷f c) (a ÷f d) (a ÷f y)
unfolding ◌÷f◌
by_divisor a p h k = swap (by_factor_left a (inv≤ (lt_of_lt_of_le p h) k) (inv≤ p h))

pub quotient_point : (A B : Ends) → Positive B → Pointwise ◌÷f◌ A B
unfolding ◌÷f◌
quotient_point A B p x y h k =
    combine_point ◌÷f◌ A B x y (by_factor (inv y) h.low h.high)
    (by_divisor A.lower p.positive k.low k.high)
    (by_divisor A.upper p.positive k.low k.high)
