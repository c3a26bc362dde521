-- What depends on n alone, at all 576 pairs of counts: one computed test of ln(8/(π(2n−1))) and the exponent of the inner weight.
use Prim.Native.Nat.{ℕ, ◌+◌, ◌-◌, ◌*◌, ◌/◌, ◌^◌, ◌≤◌, ◌<◌}
use mathlib.Core.{Path.{◌≡◌}, Bool.{false, cond}, List.{List, [], ◌∷◌}}
use native.Mathlib.{Omega.{arith}, Decide.{dec_le}}
use lib.Dec.{eqb}
use Rattle.whole.specs.Whole.{ceil_div}
use Rattle.interval.proofs.Rules.{Rule, ◌≼◌, Kept}
use Rattle.exact.specs.{Fraction.{choose}, Exponential.{least_from}}
use Rattle.enclosure.specs.Pi.{π_below, π_above}
use Rattle.logarithm.specs.{Series.{square_of, power_of, term_of, terms_of}, Ends.{doublings, near_of, end_of}}
use Rattle.logarithm.proofs.KnownHalvings.{low_by, high_by}
use Rattle.effective_number.specs.Counts.{Counts, spacings, half_perimeter, meshes}
use Rattle.effective_number.proofs.{Rules.{at_counts}, Table.{newton, root, root_at, nb_low, nb_high, n_low, n_high}}
use Rattle.conductors.specs.Weights.{eight}

-- ---- what is computed

-- m with q 2^m ≤ p < q 2^(m+1), counted up
unfoldable pub halved : ℕ → ℕ → ℕ
halved p q = least_from (λ m. 2 * (q * 2 ^ m)) (p + 1) 6 0

-- the lower and the upper end of ln(p/q)
unfoldable pub ln_low : ℕ → ℕ → ℕ
ln_low p q = low_by (halved p q) p q

unfoldable pub ln_high : ℕ → ℕ → ℕ
ln_high p q = high_by (halved p q) p q

-- π(2n−1) in 10^−12
abbrev pub odd_low : ℕ → ℕ
odd_low n = π_below * (n * 2 - 10000000) / 10000

abbrev pub odd_high : ℕ → ℕ
odd_high n = ceil_div (π_above * (n * 2 - 10000000)) 10000

-- (2/n)·ln(2n) in 10^−9, from the ends l and h of n and of ln(2n)
abbrev pub exponent_low : ℕ → ℕ → ℕ
exponent_low h log = 20000000 * 1000000000 / h * log / 1000000000

abbrev pub exponent_high : ℕ → ℕ → ℕ
exponent_high l log = ceil_div (ceil_div (20000000 * 1000000000) l * log) 1000000000

-- ---- the rules

-- q 2^m is t, the greatest that is not above p
abbrev is_halved : ℕ → ℕ → List Rule → List Rule
is_halved p t more = (t ≼ p) ∷ (p + 1 ≼ 2 * t) ∷ more

-- of π(2n−1) from p to q, with 8 2^m for each, and of the logarithm from e to f
spread_rules : (p s q t e f : ℕ) → List Rule
spread_rules p s q t e f =
    is_halved p s (is_halved q t ((eight + 1 ≼ p) ∷ (q ≼ 1000000000000000) ∷ (e ≼ f) ∷ (f ≼ e + 60) ∷ (f ≼ 2960000000) ∷ []))

-- of 2n from p to q in 10^−7, with 10^7 2^m for each, of its logarithm from g to k, and of the exponent from e to f
exponent_rules : (p s q t g k e f : ℕ) → List Rule
exponent_rules p s q t g k e f = is_halved p s (is_halved q t ((g ≼ k) ∷ (65536 ≼ e) ∷ (e ≼ f) ∷ (f ≼ e + 95) ∷ (f ≼ 1400000000) ∷ []))

-- ---- at each two counts

-- by the ends of π(2n−1)
spread_rules_of : ℕ → ℕ → List Rule
spread_rules_of p q = spread_rules p (eight * 2 ^ halved p eight) q (eight * 2 ^ halved q eight) (ln_low p eight) (ln_high q eight)

spread_rules_at : ℕ → ℕ → List Rule
spread_rules_at a b = spread_rules_of (odd_low (n_low a b)) (odd_high (n_high a b))

-- by the ends of n and of ln(2n)
exponent_rules_by : (l h g k : ℕ) → List Rule
exponent_rules_by l h g k =
    exponent_rules (l * 2) (10000000 * 2 ^ halved (l * 2) 10000000) (h * 2) (10000000 * 2 ^ halved (h * 2) 10000000) g k (exponent_low h g)
    (exponent_high l k)

exponent_rules_of : ℕ → ℕ → List Rule
exponent_rules_of l h = exponent_rules_by l h (ln_low (l * 2) 10000000) (ln_high (h * 2) 10000000)

exponent_rules_at : ℕ → ℕ → List Rule
exponent_rules_at a b = cond (eqb a b) [] (exponent_rules_of (n_low a b) (n_high a b))

-- what the test computes with, opened by name
computed : ℕ
unfolding newton root halved ln_low ln_high root_at nb_low nb_high n_low n_high spacings half_perimeter meshes ceil_div choose dec_le least_from
    square_of power_of term_of terms_of doublings near_of end_of spread_rules spread_rules_of exponent_rules exponent_rules_by exponent_rules_of
computed = 0

-- ---- what the test shows

-- p over q lies from 2^m to 2^(m+1), for the m that is counted up
pub record Halved (p q : ℕ) : Type 0 where
  pub low : q * 2 ^ halved p q ≤ p
  pub high : p < 2 * (q * 2 ^ halved p q)

-- of π(2n−1) over 8, for π(2n−1) from p to q
pub record Spread (p q : ℕ) : Type 0 where
  pub low : Halved p eight
  pub high : Halved q eight
  pub above : eight < p
  pub inside : q ≤ 1000000000000000
  pub order : ln_low p eight ≤ ln_high q eight
  pub near : ln_high q eight ≤ ln_low p eight + 60
  pub most : ln_high q eight ≤ 2960000000

-- of the inner weight's exponent, for n from l to h
pub record Exponent (l h : ℕ) : Type 0 where
  pub low : Halved (l * 2) 10000000
  pub high : Halved (h * 2) 10000000
  pub log_order : ln_low (l * 2) 10000000 ≤ ln_high (h * 2) 10000000
  pub least : 65536 ≤ exponent_low h (ln_low (l * 2) 10000000)
  pub order : exponent_low h (ln_low (l * 2) 10000000) ≤ exponent_high l (ln_high (h * 2) 10000000)
  pub near : exponent_high l (ln_high (h * 2) 10000000) ≤ exponent_low h (ln_low (l * 2) 10000000) + 95
  pub most : exponent_high l (ln_high (h * 2) 10000000) ≤ 1400000000

module _ {a b : ℕ} (h : Counts a b) where
  kept_spread : Kept (spread_rules_at a b)
  unfolding computed spread_rules_at
  kept_spread = at_counts spread_rules_at tt h

  pub spread_known : Spread (odd_low (n_low a b)) (odd_high (n_high a b))
  unfolding spread_rules_at spread_rules_of spread_rules
  spread_known =
      let k = kept_spread.at in
      record {
        low = record { low = k 0; high = omega (arith, k 1) };
        high = record { low = k 2; high = omega (arith, k 3) };
        above = omega (arith, k 4);
        inside = k 5;
        order = k 6;
        near = k 7;
        most = k 8;
      }

  kept_exponent : Kept (exponent_rules_at a b)
  unfolding computed exponent_rules_at
  kept_exponent = at_counts exponent_rules_at tt h

  pub exponent_known : eqb a b ≡ false → Exponent (n_low a b) (n_high a b)
  unfolding exponent_rules_at exponent_rules_of exponent_rules_by exponent_rules
  exponent_known e =
      let kept : Kept (exponent_rules_of (n_low a b) (n_high a b)) = rw e at kept_exponent in
      let k = kept.at in
      record {
        low = record { low = k 0; high = omega (arith, k 1) };
        high = record { low = k 2; high = omega (arith, k 3) };
        log_order = k 4;
        least = k 5;
        order = k 6;
        near = k 7;
        most = k 8;
      }
