-- The lesser and the greater of two exact values: consistent where both are, and enclosed by the lesser and the greater of two counts.
use Prim.Native.Nat.{ℕ, ◌+◌, ◌*◌, ◌≤◌, min, max}
use native.Mathlib.{Omega.{arith}, Decide.{dec_le}}
use native.Mathlib.Nat.{mul-le-mul_left, min-le_left, min-le_right, min-eq_left, min-eq_right, le-max_left, le-max_right, max-eq_left}
use native.Mathlib.Nat.{max-eq_right}
use lib.IntN.{pos}
use Rattle.whole.proofs.Choice.{pos≤}
use Rattle.interval.specs.{declared.Interval.{Interval}, Operations.{natural}}
use Rattle.exact.specs.{Fraction.{◌≤f◌, minf, maxf}, Exact.{Exact}, Depth.{work_depth, Consistent}, Reported.{Scale, ten, over, reported}}
use Rattle.exact.proofs.{Order.{trans≤, min_cases, max_cases, min_left, min_right, max_left, max_right}, Reported.{over≤}}
use Rattle.enclosure.specs.Enclosure.{Encloses}
use Rattle.readings.specs.{Resistivity.{lesser, greater}, Ends.{two_pi_digits, two_pi_below, two_pi_above}}

module _ {x y : Exact} (cx : Consistent x) (cy : Consistent y) where
  pub consistent_lesser : Consistent (lesser x y)
  unfolding lesser
  consistent_lesser =
      record {
        agree = λ j k hj hk.
            min_cases (λ m. minf (x j).lower (y j).lower ≤f m) (λ h. trans≤ (min_left _ _) (cx.agree j k hj hk))
            (λ h. trans≤ (min_right _ _) (cy.agree j k hj hk));
      }

  pub consistent_greater : Consistent (greater x y)
  unfolding greater
  consistent_greater =
      record {
        agree = λ j k hj hk.
            max_cases (λ m. m ≤f maxf (x k).upper (y k).upper) (λ h. trans≤ (cx.agree j k hj hk) (max_left _ _))
            (λ h. trans≤ (cy.agree j k hj hk) (max_right _ _));
      }

-- more of one unit
more : (u : Scale) (k : ℕ) {m n : ℕ} → m ≤ n → over (pos (k * m)) u ≤f over (pos (k * n)) u
more u k h = over≤ u (pos≤ (mul-le-mul_left k h))

-- 2π times a count, not rounded: of a·R in units that are a millionth of 2π's own
abbrev pub fine : Scale
fine = ten (two_pi_digits + 6)

abbrev pub two_pi_times : ℕ → Interval
two_pi_times n = natural (two_pi_below * n) (two_pi_above * n)

module _ {x y : Exact} {u : Scale} (a b : ℕ) (ex : Encloses x u (two_pi_times a)) (ey : Encloses y u (two_pi_times b)) where
  pub encloses_lesser : Encloses (lesser x y) u (two_pi_times (min a b))
  unfolding lesser reported natural
  encloses_lesser =
      record {
        within =
            record {
              low =
                  min_cases (λ m. over (pos (two_pi_below * min a b)) u ≤f m)
                  (λ _. trans≤ (more u two_pi_below (min-le_left a b)) ex.within.low)
                  (λ _. trans≤ (more u two_pi_below (min-le_right a b)) ey.within.low);
              high = go (dec_le a b);
            };
      }
    where
      go : Dec (a ≤ b) → minf (x work_depth).upper (y work_depth).upper ≤f over (pos (two_pi_above * min a b)) u
      go (yes i) = rw (min-eq_left i) (trans≤ (min_left _ _) ex.within.high)
      go (no n) = let i : b ≤ a = omega arith in rw (min-eq_right i) (trans≤ (min_right _ _) ey.within.high)

  pub encloses_greater : Encloses (greater x y) u (two_pi_times (max a b))
  unfolding greater reported natural
  encloses_greater =
      record {
        within =
            record {
              low = go (dec_le a b);
              high =
                  max_cases (λ m. m ≤f over (pos (two_pi_above * max a b)) u)
                  (λ _. trans≤ ex.within.high (more u two_pi_above (le-max_left a b)))
                  (λ _. trans≤ ey.within.high (more u two_pi_above (le-max_right a b)));
            };
      }
    where
      go : Dec (a ≤ b) → over (pos (two_pi_below * max a b)) u ≤f maxf (x work_depth).lower (y work_depth).lower
      go (yes i) = rw (max-eq_right i) (trans≤ ey.within.low (max_right _ _))
      go (no n) = let i : b ≤ a = omega arith in rw (max-eq_left i) (trans≤ ex.within.low (max_left _ _))
