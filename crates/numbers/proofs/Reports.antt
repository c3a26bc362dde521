-- A pair that reports a number lies no further than its width from every pair that holds the number. So two reported pairs lie apart where
-- pairs that hold their numbers lie apart by more than both widths.
use mathlib.Core.{Path.{◌≡◌, refl}, Bool.{Bool, true, false}}
use lib.{IntN.{ℤ}, Signed.{◌≤ℤ◌, ◌<ℤ◌, lt_z, lt_z_no}}
use native.Mathlib.Omega.{arith}
use Rattle.interval.specs.declared.Interval.{Interval}
use Rattle.exact.specs.{Fraction.{Fraction, ◌≤f◌, ◌<f◌, ◌+f◌, neg, ◌−f◌}, Ends.{Ends}, Exact.{Exact, Holds}}
use Rattle.exact.{specs.Reported.{Scale, reported, Reports}, proofs.{Order.{refl≤, trans≤, not<}, Sums.{mono+}, Reported.{over≤}}}
use Rattle.numbers.specs.Number.{Near, Narrows}
use Rattle.numbers.proofs.{Near.{near_between, near_trans}, OneNumber.{held_overlap}}

parted : (p q : Fraction) → q ≤f p +f (q −f p)
unfolding ◌−f◌ ◌+f◌ neg
parted p q = omega arith

module _ {x : Exact} {u : Scale} {width : Ends → Fraction} {i : Interval} {B : Ends} (n : Narrows x) (r : Reports x u width i)
    (h : Holds B x) where
  -- the lower end, by which most widths go
  pub lower_at_most : (reported u i).lower ≤f B.upper
  lower_at_most = held_overlap n r.holds h

  module _ {w : Fraction} (l : width (reported u i) ≤f w) where
    apart : Near w (reported u i).lower (reported u i).upper
    apart = record { near = trans≤ (parted _ _) (mono+ (refl≤ _) (trans≤ r.narrow.apart l)) }

    pub upper_near : Near w B.upper (reported u i).upper
    upper_near = near_between apart lower_at_most (refl≤ _)

    pub lower_near : Near w (reported u i).lower B.lower
    lower_near = near_between apart (refl≤ _) (held_overlap n h r.holds)

-- a comparison of whole numbers by its contrary
less : {a b : ℤ} → (b ≤ℤ a → ⊥) → a <ℤ b
less {a} {b} h = go (lt_z a b) refl
  where
    go : (t : Bool) → lt_z a b ≡ t → a <ℤ b
    go true e = record { lt = rw e tt }
    go false e = absurd (h (lt_z_no (rw e tt)))

module _ {x y : Exact} {u : Scale} {f g : Ends → Fraction} {i j : Interval} {A B : Ends}
    (m : Narrows x) (n : Narrows y) (r : Reports x u f i) (s : Reports y u g j) (h : Holds A x) (k : Holds B y) where
  pub reported_apart : {v w : Fraction} → f (reported u i) ≤f v → g (reported u j) ≤f w → A.upper +f (v +f w) <f B.lower
      → i.upper <ℤ j.lower
  unfolding reported
  reported_apart p q l =
      less (λ c. not< l (near_trans (upper_near m r h p) (near_between (lower_near n s k q) (over≤ u c) (refl≤ _))).near)
