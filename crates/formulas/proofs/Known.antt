-- Formulas at numbers: pairs of a few digits that the ends at the depth of the code lie within, kept by every operation. Each step is one
-- computed test, so that no fraction grows, and the steps for a formula follow its line.
use Prim.Native.Nat.{ℕ, suc, ◌+◌, ◌*◌, ◌≤◌}
use mathlib.Core.Bool.{Bool, ◌&&◌}
use native.Mathlib.Omega.{arith}
use lib.Dec.{T, leb, leb→le, lit≤}
use mir.Facts.{and_yes}
use Rattle.interval.specs.Operations.{natural}
use Rattle.exact.specs.{Fraction.{Fraction, ◌≤f◌, ◌<f◌, whole, ◌+f◌, ◌−f◌, ◌·f◌, ◌÷f◌}, Ends.{Ends, combine, ◌+e◌, ◌−e◌, ◌·e◌, ◌÷e◌}}
use Rattle.exact.specs.{Exact.{Exact, exactly, ◌+x◌, ◌−x◌, ◌·x◌, ◌÷x◌, Holds}, Reported.{ten, reported}}
use Rattle.exact.{specs.Depth.{work_depth, Consistent, Within, Proper, Positive}, proofs.Order.{refl≤, lt_of_lt_of_le}}
use Rattle.exact.proofs.Points.{Pointwise, proper_combine, sum_point, difference_point, product_point, quotient_point}
use Rattle.exact.proofs.{Inclusion.{within_refl, within_trans, within_combine}, Holding.{holds_depth}}

-- the ends of x at the depth of the code lie within A
pub record Known (x : Exact) (A : Ends) : Type 0 where
  pub proper : Proper (x work_depth)
  pub within : Within (x work_depth) A

-- a and b in units of 10^−e
abbrev pub digits : ℕ → ℕ → ℕ → Ends
digits e a b = reported (ten e) (natural a b)

-- ---- tests

unfoldable pub at_most : Fraction → Fraction → Bool
at_most a b = leb (a.plus * b.den + b.minus * a.den) (b.plus * a.den + a.minus * b.den)

unfoldable pub inside : Ends → Ends → Bool
inside A B = at_most B.lower A.lower && at_most A.upper B.upper

unfoldable pub positive : Ends → Bool
positive A = leb (suc A.lower.minus) A.lower.plus

unfoldable pub less_than : Fraction → Fraction → Bool
less_than a b = leb (suc (a.plus * b.den + b.minus * a.den)) (b.plus * a.den + a.minus * b.den)

pub at_most_lem : (a b : Fraction) → T (at_most a b) → a ≤f b
unfolding at_most
at_most_lem a b t = record { le = leb→le _ _ t }

pub less_than_lem : (a b : Fraction) → T (less_than a b) → a <f b
unfolding less_than
less_than_lem a b t = record { lt = leb→le _ _ t }

pub inside_within : (A B : Ends) → T (inside A B) → Within A B
unfolding inside
inside_within A B t =
    let h = and_yes (at_most B.lower A.lower) (at_most A.upper B.upper) t in
    record { low = at_most_lem B.lower A.lower h.0; high = at_most_lem A.upper B.upper h.1 }

pub is_positive : (A : Ends) → T (positive A) → Positive A
unfolding positive whole
is_positive A t =
    let h : suc A.lower.minus ≤ A.lower.plus = leb→le _ _ t in
    record { positive = record { lt = omega arith } }

-- ---- a pair that holds a value which is known

pub holds_known : {x : Exact} {A : Ends} → Consistent x → Known x A → Holds A x
holds_known c k = holds_depth c (lit≤ tt) k.within

-- ---- each operation

-- a fraction is and_yes its ends
abbrev pub both_ends : Fraction → Ends
both_ends q = record { lower = q; upper = q }

pub known_exactly : (q : Fraction) → Known (exactly q) (both_ends q)
unfolding exactly
known_exactly q = record { proper = record { proper = refl≤ q }; within = within_refl (both_ends q) }

-- by a pair of fewer digits
pub rounded : {x : Exact} {A : Ends} (C : Ends) → Known x A → T (inside A C) → Known x C
rounded C a t = record { proper = a.proper; within = within_trans a.within (inside_within _ C t) }

-- each result is rounded at once, so that a test computes one operation on short numbers
module _ {x y : Exact} {A B : Ends} (C : Ends) (a : Known x A) (b : Known y B) where
  known_combine : (op : Fraction → Fraction → Fraction) → Pointwise op (x work_depth) (y work_depth) → Pointwise op A B
      → T (inside (combine op A B) C) → Known (λ k. combine op (x k) (y k)) C
  known_combine op p q t =
      record {
        proper = proper_combine op p a.proper b.proper;
        within = within_trans (within_combine op q a.proper b.proper a.within b.within) (inside_within _ C t);
      }

  pub known_sum : T (inside (A +e B) C) → Known (x +x y) C
  unfolding ◌+x◌ ◌+e◌
  known_sum = known_combine ◌+f◌ (sum_point _ _) (sum_point A B)

  pub known_difference : T (inside (A −e B) C) → Known (x −x y) C
  unfolding ◌−x◌ ◌−e◌
  known_difference = known_combine ◌−f◌ (difference_point _ _) (difference_point A B)

  pub known_product : T (inside (A ·e B) C) → Known (x ·x y) C
  unfolding ◌·x◌ ◌·e◌
  known_product = known_combine ◌·f◌ (product_point _ _) (product_point A B)

  -- by a pair that is positive
  pub known_quotient : T (positive B && inside (A ÷e B) C) → Known (x ÷x y) C
  unfolding ◌÷x◌ ◌÷e◌
  known_quotient t =
      let h = and_yes (positive B) (inside (A ÷e B) C) t in
      let p = is_positive B h.0 in
      let q : Positive (y work_depth) = record { positive = lt_of_lt_of_le p.positive b.within.low } in
      known_combine ◌÷f◌ (quotient_point _ _ q) (quotient_point A B p) h.1
