-- The answer to a staged test. §9.2.
use Rattle.std.specs.Prelude.{ℕ}
use mathlib.Core.{Bool.{cond}, List.{List}}
use lib.{IntN.{ℤ}, ListN.{length}}
use Rattle.staged.specs.declared.GridShare.{GridShare}
use Rattle.staged.specs.{Check.{bad_count, any_outside, none_injected}}
use Rattle.staged.specs.Current.{in_phase, quadrature, injected, grid_part, square_of}
use Rattle.long_root.specs.Split.{split_of}
use Rattle.std.specs.Prelude.{Result, Ok}
use Rattle.refusal.specs.{declared.Refused.{Refused}, Refused.{refuse}}

-- what a test shows: the grid's two parts and the split
abbrev pub grid : ℤ → ℤ → ℕ → GridShare
grid a b n = record { in_phase = a; quadrature = b; per_mille = n }

module _ (s : List ℤ) where
  unfoldable pub grid_square : ℕ
  grid_square = square_of (grid_part (in_phase s)) (grid_part (quadrature s))

  unfoldable pub injected_square : ℕ
  injected_square = square_of (injected (in_phase s)) (injected (quadrature s))

  -- "Report the grid's two parts, and the split"; "A split of 0 or above 1000 is reported"
  unfoldable pub grid_split : GridShare
  grid_split = grid (grid_part (in_phase s)) (grid_part (quadrature s)) (split_of grid_square injected_square)

  -- "Refusals, in order over the whole input, with line and column 0"
  unfoldable pub answer : Result GridShare Refused
  answer =
      cond (bad_count (length s)) (refuse 17 0 0)
      (cond (any_outside s) (refuse 18 0 0)
      (cond (none_injected s) (refuse 19 0 0) (Ok grid_split)))
