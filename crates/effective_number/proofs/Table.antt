-- n and Ki at all 576 pairs of counts: one computed test.
use Prim.Native.Nat.{ℕ, zero, suc, ◌+◌, ◌*◌, ◌/◌, ◌^◌, min, ◌≤◌}
use mathlib.Core.{Bool.{cond}, List.{List, [], ◌∷◌}}
use native.Mathlib.{Omega.{arith}, Decide.{dec_le}}
use lib.Dec.{eqb}
use Rattle.whole.specs.Whole.{ceil_div}
use Rattle.interval.{specs.Root.{IsRoot}, proofs.Rules.{Rule, ◌≼◌, Kept}}
use Rattle.effective_number.specs.{Counts.{Counts, spacings, half_perimeter, meshes}, Number.{ratio_low, ratio_high}}
use Rattle.effective_number.proofs.Rules.{at_counts}

-- ---- what is computed

-- a square root by Newton's steps from above; the test shows that it is one
unfoldable pub newton : ℕ → ℕ → ℕ → ℕ
newton x zero y = y
newton x (suc steps) y = newton x steps (min y ((y + x / y) / 2))

unfoldable pub root : ℕ → ℕ
root x = newton x 14 4000000000

module _ (a b : ℕ) where
  -- √meshes in 10^−8
  unfoldable pub root_at : ℕ
  root_at = root (meshes a b * 10 ^ 16)

  -- nb in 10^−9, from below, and from above less one
  unfoldable pub nb_low : ℕ
  nb_low = root (ratio_low (half_perimeter a b) root_at * 10 ^ 9)

  unfoldable pub nb_high : ℕ
  nb_high = root (ratio_high (half_perimeter a b) root_at * 10 ^ 9)

  -- n in 10^−7
  unfoldable pub n_low : ℕ
  n_low = cond (eqb a b) (a * 10 ^ 7) (nb_low * spacings a b / (100 * half_perimeter a b))

  unfoldable pub n_high : ℕ
  n_high = cond (eqb a b) (a * 10 ^ 7) (ceil_div ((nb_high + 1) * spacings a b) (100 * half_perimeter a b))

-- ---- the rules

-- r is the root of x
abbrev is_root : ℕ → ℕ → List Rule → List Rule
is_root x r more = (r * r ≼ x) ∷ (x + 1 ≼ (r + 1) * (r + 1)) ∷ more

-- of the roots r of the meshes, x and y of the ratio's ends
root_rules : (half mesh r x y : ℕ) → List Rule
root_rules half mesh r x y =
    is_root (mesh * 10 ^ 16) r
    (is_root (ratio_low half r * 10 ^ 9) x
    (is_root (ratio_high half r * 10 ^ 9) y
    ((1 ≼ r) ∷ (r ≼ 2400000000) ∷ (x ≼ y) ∷ (y ≼ 1600000000) ∷ [])))

-- of n from l to h: its size and width; Ki against the conductors, and against Ki of na
number_rules : (least spacing half l h : ℕ) → List Rule
number_rules least spacing half l h =
    (least ≼ l)
    ∷ (l ≼ h)
    ∷ (h ≼ l + 2)
    ∷ (h ≼ 250000000)
    ∷ (6440000000 + 148 * h ≼ 2350000000 * spacing)
    ∷ (100 * half * (6440000000 + 148 * l) ≼ 1240000000 * (644 * half + 148 * spacing))
    ∷ []

-- ---- at each two counts

root_rules_at : ℕ → ℕ → List Rule
root_rules_at a b = root_rules (half_perimeter a b) (meshes a b) (root_at a b) (nb_low a b) (nb_high a b)

number_rules_at : ℕ → ℕ → List Rule
number_rules_at a b = number_rules (cond (eqb a b) 20000000 24000000) (spacings a b) (half_perimeter a b) (n_low a b) (n_high a b)

-- what the test computes with, opened by name
computed : ℕ
unfolding newton root root_at nb_low nb_high n_low n_high spacings half_perimeter meshes ceil_div dec_le root_rules number_rules
computed = 0

-- ---- what the test shows

pub record Roots (a b : ℕ) : Type 0 where
  pub mesh : IsRoot (meshes a b * 10 ^ 16) (root_at a b)
  pub low : IsRoot (ratio_low (half_perimeter a b) (root_at a b) * 10 ^ 9) (nb_low a b)
  pub high : IsRoot (ratio_high (half_perimeter a b) (root_at a b) * 10 ^ 9) (nb_high a b)
  pub some : 1 ≤ root_at a b
  pub few : root_at a b ≤ 2400000000
  pub order : nb_low a b ≤ nb_high a b
  pub most : nb_high a b ≤ 1600000000

pub record Number (a b : ℕ) : Type 0 where
  pub least : cond (eqb a b) 20000000 24000000 ≤ n_low a b
  pub order : n_low a b ≤ n_high a b
  pub near : n_high a b ≤ n_low a b + 2
  pub most : n_high a b ≤ 250000000
  -- Ki is at most 0.235 of the conductors in spacings
  pub by_length : 6440000000 + 148 * n_high a b ≤ 2350000000 * spacings a b
  -- Ki is at most 1.24 times Ki of na
  pub by_na : 100 * half_perimeter a b * (6440000000 + 148 * n_low a b) ≤ 1240000000 * (644 * half_perimeter a b + 148 * spacings a b)

module _ {a b : ℕ} (h : Counts a b) where
  kept_roots : Kept (root_rules_at a b)
  unfolding computed root_rules_at
  kept_roots = at_counts root_rules_at tt h

  pub roots_known : Roots a b
  unfolding root_rules_at root_rules
  roots_known =
      let k = kept_roots.at in
      record {
        mesh = record { low = k 0; high = omega (arith, k 1) };
        low = record { low = k 2; high = omega (arith, k 3) };
        high = record { low = k 4; high = omega (arith, k 5) };
        some = k 6;
        few = k 7;
        order = k 8;
        most = k 9;
      }

  kept_number : Kept (number_rules_at a b)
  unfolding computed number_rules_at
  kept_number = at_counts number_rules_at tt h

  pub number_known : Number a b
  unfolding number_rules_at number_rules
  number_known =
      let k = kept_number.at in
      record { least = k 0; order = k 1; near = k 2; most = k 3; by_length = k 4; by_na = k 5 }
