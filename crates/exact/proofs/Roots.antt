-- Roots as values: they grow with their argument, so they keep consistency, inclusion and what is held.
use Prim.Native.Nat.{ℕ, ◌*◌, ◌^◌, ◌≤◌, ◌<◌, suc-le-suc}
use mathlib.Core.Path.{◌≡◌}
use native.Mathlib.{Omega.{arith}, Nat.{mul-le-mul_right}}
use lib.IntN.{pos}
use Rattle.exact.specs.{Fraction.{Fraction, ◌≤f◌, ◌≈f◌, decimal, top}, Ends.{Ends}, Exact.{Exact, exactly, Holds}}
use Rattle.exact.specs.{Root.{root_of, root}, Reported.{Scale, reported}, Depth.{Consistent, Within, SameEnds}}
use Rattle.exact.proofs.{Order.{refl≤, trans≤}, Growing.{Growing, consistent_extended, holds_extended}}
use Rattle.exact.proofs.RootDigits.{digits_cross, digits≤, not_above_upper, lower_not_above, not_above_lower, upper_not_above}

decimal≤ : {a c : ℕ} (k : ℕ) → a ≤ c → decimal a k ≤f decimal c k
unfolding decimal
decimal≤ k h = omega (arith, mul-le-mul_right (10 ^ k) h)

abbrev pub Anywhere : Fraction → Type 0
Anywhere q = Unit {0}

pub consistent_root_of : (n : ℕ) (q : Fraction) → 1 ≤ n → Consistent (root_of n q)
unfolding root_of decimal
consistent_root_of n q hn = record { agree = λ j k hj hk. record { le = omega (arith, digits_cross n hn (refl≤ q) j k) } }

pub growing_root : (n : ℕ) → 1 ≤ n → Growing Anywhere (root_of n)
unfolding root_of
growing_root n hn =
    record {
      onward = λ m l. tt;
      rises = λ m l k. record { lowers = decimal≤ k (digits≤ n hn l k); uppers = decimal≤ k (suc-le-suc (digits≤ n hn l k)) };
      agree = λ {q} m. consistent_root_of n q hn;
    }

pub consistent_root : (n : ℕ) {x : Exact} → 1 ≤ n → Consistent x → Consistent (root n x)
unfolding root
consistent_root n hn c = consistent_extended (growing_root n hn) (λ k d. tt) c

-- the ends depend on the value alone
pub root_value : (n : ℕ) {q q' : Fraction} → 1 ≤ n → q ≈f q' → (k : ℕ) → SameEnds (root n (exactly q) k) (root n (exactly q') k)
unfolding root exactly
root_value n hn e k =
    let g = growing_root n hn in
    let there = g.rises tt e.to k in
    let back = g.rises tt e.fro k in
    record { lowers = record { to = there.lowers; fro = back.lowers }; uppers = record { to = there.uppers; fro = back.uppers } }

module _ (n : ℕ) (u : Scale) (lo hi : ℕ) {A : Ends} (hn : 1 ≤ n) (low : lo ^ n * A.lower.den ≤ u.count ^ n * top A.lower) where
  -- a pair of counts of any unit, by what holds the argument
  pub holds_root : {x : Exact} → u.count ^ n * top A.upper ≤ hi ^ n * A.upper.den → Holds A x
      → Holds (reported u (record { lower = pos lo; upper = pos hi })) (root n x)
  unfolding root reported
  holds_root high h =
      holds_extended (growing_root n hn) tt (λ k d. tt) h
      (λ k d. not_above_upper n hn A.lower u lo k low) (λ k d. lower_not_above n hn A.upper u hi k high)

  -- a pair of counts of a unit that is a multiple of the depth's, by what the argument lies within
  pub root_within : (x : Exact) (k m : ℕ) → u.count * m ≡ 10 ^ k → u.count ^ n * top A.upper < hi ^ n * A.upper.den
      → Within (x k) A → Within (root n x k) (reported u (record { lower = pos lo; upper = pos hi }))
  unfolding root reported
  root_within x k m fits high w =
      let g = growing_root n hn in
      record {
        low = trans≤ (not_above_lower n hn A.lower u lo k m fits low) (g.rises tt w.low k).lowers;
        high = trans≤ (g.rises tt w.high k).uppers (upper_not_above n hn A.upper u hi k m fits high);
      }
