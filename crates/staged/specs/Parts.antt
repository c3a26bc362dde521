-- §9.2: what is known of a staged test's numbers once the checks have passed.
use Rattle.std.specs.Prelude.{ℕ, ◌≤◌, ◌<◌}
use mathlib.Core.{Path.{◌≡◌}, Bool.{false}, List.{List}}
use lib.{IntN.{ℤ, pos, nat_abs}, ListN.{length, get_or}}
use Rattle.staged.specs.{Current.{every_other, grid_part}, Check.{bad_count, any_outside, none_injected, most_numbers, largest_part}}

-- no check refuses them
pub record Sound (s : List ℤ) : Type 0 where
  pub count : bad_count (length s) ≡ false
  pub range : any_outside s ≡ false
  pub injected : none_injected s ≡ false

-- no more than the limit, each within its range
pub record Parts (s : List ℤ) : Type 0 where
  pub some : 0 < length s
  pub most : length s ≤ most_numbers
  pub size : (i : ℕ) → nat_abs (get_or s i (pos 0)) ≤ largest_part

-- the largest size of a part of the grid current: the injected current and 16 branches
abbrev pub largest_grid_part : ℕ
largest_grid_part = 17000000

-- a part of the grid current
pub record GridPart (s : List ℤ) (r : ℤ) : Type 0 where
  pub is : r ≡ grid_part (every_other s)
  pub small : nat_abs r ≤ largest_grid_part
