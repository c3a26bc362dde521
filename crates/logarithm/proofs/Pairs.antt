-- The logarithm of a pair of counts over a number: its ends, and what they enclose.
use Prim.Native.Nat.{ℕ, ◌*◌, ◌≤◌, ◌<◌}
use mathlib.Core.Path.{ap}
use native.Mathlib.{Omega.{arith}, Nat.{le_trans}}
use lib.{Dec.{lit≤}, IntN.{pos}}
use Rattle.interval.specs.Operations.{natural, minus_of}
use Rattle.exact.specs.{Fraction.{◌<f◌, ◌≈f◌, whole, inv, ◌·f◌, ◌÷f◌}, Exact.{Exact, exactly, ◌÷x◌}, Logarithm.{ln, ln_of}}
use Rattle.exact.specs.{Depth.{work_depth, Consistent, Proper, Positive, PositiveAt, Within}, Reported.{Scale, ten, over, reported}}
use Rattle.exact.proofs.{Order.{refl≤, refl≈, sym≈, trans≈, whole_pos, nonneg}, Products.{whole_mul}, Divisors.{cong÷, expand}}
use Rattle.exact.proofs.Consistency.{consistent_exactly, consistent_quotient}
use Rattle.exact.proofs.{Inclusion.{within_refl, within_trans, within_same, within_quotient}, KnownEnds.{quotient_ends_lem}}
use Rattle.exact.proofs.{Logarithm.{ln_within}, Quotients.{clamped}}
use Rattle.enclosure.{specs.Enclosure.{Encloses}, proofs.Basics.{encloses_proper}}
use Rattle.logarithm.specs.Ends.{close_ends, ln_pair}
use Rattle.logarithm.proofs.{UpEnds.{close_encloses}, LnEnds.{ratio_positive, turned_encloses}}

-- a of a unit over one
count_ratio : (a : ℕ) (u : Scale) → over (pos a) u ≈f whole a ÷f whole u.count
unfolding over whole inv ◌÷f◌ ◌·f◌
count_ratio a u = omega (arith, ap (λ t. a * t) (clamped u.positive))

module _ {a b : ℕ} (u : Scale) (from : u.count ≤ a) (order : a ≤ b) where
  -- of a value between a and b of the unit, which is not below 1
  pub ln_pair_encloses : {x : Exact} → Consistent x → Encloses x u (natural a b) → Encloses (ln x) (ten 9) (ln_pair (natural a b) u.count)
  unfolding ln_pair natural reported
  ln_pair_encloses c e =
      record {
        within =
            ln_within (record { positive = ratio_positive (le_trans u.positive from) u.positive }) c (lit≤ tt)
            (within_trans e.within (within_same (record { lowers = count_ratio a u; uppers = count_ratio b u })))
            (close_encloses u.positive from) (close_encloses u.positive (le_trans from order));
      }

-- n over a value of a unit, which is above n: minus the logarithm of the value over n
module _ (n : ℕ) {c d : ℕ} (u : Scale) (some : 1 ≤ n * u.count) (below : n * u.count < c) (order : c ≤ d) where
  abbrev q : ℕ
  q = n * u.count

  hc : 1 ≤ c
  hc = omega (arith, below)

  hd : 1 ≤ d
  hd = le_trans hc order

  turned : {p : ℕ} → q < p → Within (ln_of (whole q ÷f whole p) work_depth) (reported (ten 9) (minus_of (close_ends p q)))
  turned {p} l = turned_encloses some (omega arith) (close_ends p q) l (close_encloses some (omega arith))

  over_pos : {p : ℕ} → 1 ≤ p → whole 0 <f over (pos p) u
  unfolding whole over
  over_pos l = omega arith

  count_is : (p : ℕ) → over (pos p) u ·f whole u.count ≈f whole p
  unfolding whole over ◌·f◌
  count_is p = omega arith

  -- n over p of the unit
  quotient_is : {p : ℕ} → 1 ≤ p → whole n ÷f over (pos p) u ≈f whole q ÷f whole p
  quotient_is {p} l =
      trans≈ (expand (whole n) (over_pos l) (whole_pos u.positive) (count_is p))
      (cong÷ (whole_pos l) (sym≈ (whole_mul n u.count)) (refl≈ _))

  pub ln_over_encloses : {y : Exact} → Consistent y → PositiveAt y → Encloses y u (natural c d)
      → Encloses (ln (exactly (whole n) ÷x y)) (ten 9) (minus_of (ln_pair (natural c d) q))
  unfolding ln_pair natural minus_of reported exactly
  ln_over_encloses {y} cy py e =
      let positive : Positive (reported u (natural c d)) = record { positive = over_pos hc } in
      let proper : Proper (reported u (natural c d)) = encloses_proper cy e in
      let ratios = within_trans
      (within_quotient (consistent_exactly (whole n)) cy (lit≤ tt) (within_refl _) e.within positive)
      (within_trans (within_same (quotient_ends_lem (record { proper = refl≤ (whole n) }) proper (nonneg n) positive))
      (within_same (record { lowers = quotient_is hd; uppers = quotient_is hc }))) in
      record {
        within =
            ln_within (record { positive = ratio_positive some hd }) (consistent_quotient py (consistent_exactly (whole n)) cy) (lit≤ tt)
            ratios (turned {p = d} (omega (arith, below, order))) (turned {p = c} below);
      }
