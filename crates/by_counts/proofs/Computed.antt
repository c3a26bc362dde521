-- The ends of what depends on the two counts, as numbers that compute.
use Prim.Native.Nat.{ℕ, ◌+◌, ◌-◌, ◌*◌, ◌/◌}
use mathlib.Core.{Path.{◌≡◌, refl}, Bool.{Bool, true, false, cond}}
use native.Mathlib.Omega.{arith}
use lib.Dec.{eqb, lit≤, lit<}
use Rattle.whole.specs.Whole.{ceil_div}
use Rattle.interval.specs.Operations.{natural, minus_of}
use Rattle.interval.proofs.Natural.{point_natural, natural_difference, natural_product, natural_quotient}
use Rattle.exponential.specs.Ends.{billion, halvings_of, end_of, close_ends, close_pair}
use Rattle.effective_number.{specs.{Counts.{Counts}, Number.{n_ends}}, proofs.Table.{n_low, n_high, number_known}}
use Rattle.effective_number.proofs.NumberSpans.{n_least, n_is}
use Rattle.conductors.specs.Weights.{eight, spread_ends, root_of, inner_ends, ln2_ends, half_exponent, half_power_ends}
use Rattle.conductors.proofs.Table.{ln_low, ln_high, odd_low, odd_high, exponent_low, exponent_high}
use Rattle.conductors.proofs.{LineRoots.{root_known}, WeightWidths.{log_is, exponent_is}}

-- ---- from the ends l and h of n

-- ln(π(2n−1)/8)
unfoldable pub spread_low : ℕ → ℕ
spread_low l = ln_low (odd_low l) eight

unfoldable pub spread_high : ℕ → ℕ
spread_high h = ln_high (odd_high h) eight

-- e^−q for q from x to y
unfoldable pub exp_low : ℕ → ℕ
exp_low y = end_of 0 1 (halvings_of y) y / 4

unfoldable pub exp_high : ℕ → ℕ → ℕ
exp_high x y = end_of 1 0 (halvings_of y) x / 4 + 1

-- the exponent of the inner weight
unfoldable pub less_of : ℕ → ℕ → ℕ
less_of l h = exponent_low h (ln_low (l * 2) 10000000)

unfoldable pub more_of : ℕ → ℕ → ℕ
more_of l h = exponent_high l (ln_high (h * 2) 10000000)

-- the inner weight, for a square of a lines by the root r
unfoldable pub inner_low : Bool → (r l h : ℕ) → ℕ
inner_low t r l h = cond t (billion * billion / (r + 1)) (exp_low (more_of l h))

unfoldable pub inner_high : Bool → (r l h : ℕ) → ℕ
inner_high t r l h = cond t (ceil_div (billion * billion) r) (exp_high (less_of l h) (more_of l h))

-- (n−2)·ln 2
unfoldable pub few_of : ℕ → ℕ
few_of l = (l - 20000000) * 693147180 / 10000000

unfoldable pub many_of : ℕ → ℕ
many_of h = ceil_div ((h - 20000000) * 693147181) 10000000

-- ---- they are the named ends

exp_is : (x y : ℕ) → close_pair (natural x y) ≡ natural (exp_low y) (exp_high x y)
unfolding close_pair close_ends natural exp_low exp_high
exp_is x y = refl

module _ {a b : ℕ} (h : Counts a b) where
  pub spread_is : spread_ends (n_ends a b) ≡ minus_of (natural (spread_low (n_low a b)) (spread_high (n_high a b)))
  unfolding spread_ends spread_low spread_high
  spread_is = rw (log_is h)

  pub inner_is : inner_ends a b (n_ends a b)
      ≡ natural (inner_low (eqb a b) (root_of a) (n_low a b) (n_high a b)) (inner_high (eqb a b) (root_of a) (n_low a b) (n_high a b))
  unfolding inner_ends inner_low inner_high less_of more_of
  inner_is = go (eqb a b) refl
    where
      go : (t : Bool) → eqb a b ≡ t
          → inner_ends a b (n_ends a b)
          ≡ natural (inner_low t (root_of a) (n_low a b) (n_high a b)) (inner_high t (root_of a) (n_low a b) (n_high a b))
      go true e =
          rw (e, point_natural 1000000000)
          (natural_quotient 1000000000 1000000000 {c = root_of a} {d = root_of a + 1} 1000000000
          (omega (arith, (root_known h.across).from)) (omega arith))
      go false e = rw (e, exponent_is h e) (exp_is _ _)

  pub half_is : half_power_ends (n_ends a b)
      ≡ natural (exp_low (many_of (n_high a b))) (exp_high (few_of (n_low a b)) (many_of (n_high a b)))
  unfolding half_power_ends half_exponent ln2_ends few_of many_of
  half_is =
      let from = n_least h in
      let order = (number_known h).order in
      let less = natural_difference (n_low a b) (n_high a b) 20000000 20000000 from (omega arith) in
      let exponent = natural_product {a = n_low a b - 20000000} {b = n_high a b - 20000000} {c = 693147180} {d = 693147181} (omega arith)
      (lit≤ tt) {den = 10000000} (lit< tt) in
      rw (n_is h, point_natural 20000000, less, exponent) (exp_is _ _)
