-- §9.2: the answer to a staged test computed on examples.
use mathlib.Core.{Path.{◌≡◌, refl}, List.{List, [], ◌∷◌, map}}
use Rattle.std.specs.Prelude.{ℤ, pos, negsuc}
use Rattle.staged.specs.Check.{fewest_numbers, most_numbers, bad_count, largest_part, outside, any_outside, none_injected}
use Rattle.staged.specs.Current.{every_other, in_phase, quadrature, injected, branches, total, grid_part, square_of}
use Rattle.staged.specs.{declared.GridShare.{GridShare}, Answer.{grid, grid_square, injected_square, grid_split, answer}}
use Rattle.long_root.specs.Split.{smallest, enough, split_of}
use Rattle.std.specs.Prelude.{Result, Ok}
use Rattle.refusal.specs.{declared.Refused.{Refused}, Refused.{refuse}}

answered : List ℤ → Result GridShare Refused
unfolding fewest_numbers most_numbers bad_count largest_part outside any_outside none_injected every_other in_phase quadrature injected branches
    total grid_part square_of smallest enough split_of grid_square injected_square grid_split answer
answered s = answer s

-- one branch: 0.6 of the current in the grid, exactly; a quadrature part alone; a grid without current; a grid with more than is injected
one_branch : map answered (
    (pos 1000 ∷ pos 0 ∷ pos 400 ∷ pos 0 ∷ [])
    ∷ (pos 0 ∷ pos 10 ∷ pos 0 ∷ pos 5 ∷ [])
    ∷ (pos 7 ∷ negsuc 2 ∷ pos 7 ∷ negsuc 2 ∷ [])
    ∷ (pos 10 ∷ pos 0 ∷ negsuc 9 ∷ pos 0 ∷ [])
    ∷ []) ≡ Ok (grid (pos 600) (pos 0) 600) ∷ Ok (grid (pos 0) (pos 5) 500) ∷ Ok (grid (pos 0) (pos 0) 0) ∷ Ok (grid (pos 20) (pos 0) 2000) ∷ []
unfolding answered
one_branch = refl

-- the split is rounded up: 1/3, and the root of 1/2 by both parts
rounded_up : map answered (
    (pos 3 ∷ pos 0 ∷ pos 2 ∷ pos 0 ∷ [])
    ∷ (pos 1 ∷ pos 1 ∷ pos 1 ∷ pos 0 ∷ [])
    ∷ (pos 40 ∷ pos 30 ∷ pos 10 ∷ negsuc 9 ∷ pos 0 ∷ pos 40 ∷ [])
    ∷ []) ≡ Ok (grid (pos 1) (pos 0) 334) ∷ Ok (grid (pos 0) (pos 1) 708) ∷ Ok (grid (pos 30) (pos 0) 600) ∷ []
unfolding answered
rounded_up = refl

-- a count that is odd, below 4, above 34; a part outside, also below 0; nothing injected; the first of several
refused : map answered (
    (pos 1 ∷ pos 1 ∷ pos 1 ∷ pos 1 ∷ pos 1 ∷ [])
    ∷ (pos 1 ∷ pos 1 ∷ [])
    ∷ []
    ∷ (pos 1 ∷ pos 1 ∷ pos 1 ∷ pos 1000001 ∷ [])
    ∷ (negsuc 1000000 ∷ pos 1 ∷ pos 1 ∷ pos 1 ∷ [])
    ∷ (pos 0 ∷ pos 0 ∷ pos 1 ∷ pos 1 ∷ [])
    ∷ (pos 0 ∷ pos 0 ∷ pos 1000001 ∷ pos 1 ∷ [])
    ∷ (pos 0 ∷ pos 0 ∷ pos 1000001 ∷ [])
    ∷ []) ≡ refuse 17 0 0 ∷ refuse 17 0 0 ∷ refuse 17 0 0 ∷ refuse 18 0 0 ∷ refuse 18 0 0 ∷ refuse 19 0 0 ∷ refuse 18 0 0 ∷ refuse
    17 0 0 ∷ []
unfolding answered
refused = refl

-- the ends of the range and of the counts are taken; a split of 1 and one above 1000
at_the_ends : map answered (
    (pos 1000000 ∷ pos 0 ∷ pos 999999 ∷ pos 0 ∷ [])
    ∷ (negsuc 999999 ∷ pos 0 ∷ pos 1000 ∷ pos 0 ∷ [])
    ∷ (pos 16 ∷ pos 0 ∷ pos 1 ∷ pos 0 ∷ pos 1 ∷ pos 0 ∷ pos 1 ∷ pos 0 ∷ pos 1 ∷ pos 0 ∷ pos 1 ∷ pos 0 ∷ pos 1 ∷ pos 0 ∷ pos 1 ∷ pos 0 ∷
    pos 1 ∷ pos 0
    ∷ pos 1 ∷ pos 0 ∷ pos 1 ∷ pos 0 ∷ pos 1 ∷ pos 0 ∷ pos 1 ∷ pos 0 ∷ pos 1 ∷ pos 0 ∷ pos 1 ∷ pos 0 ∷ pos 1 ∷ pos 0 ∷ pos 1 ∷ pos 0 ∷ [])
    ∷ []) ≡ Ok (grid (pos 1) (pos 0) 1) ∷ Ok (grid (negsuc 1000999) (pos 0) 1001) ∷ Ok (grid (pos 0) (pos 0) 0) ∷ []
unfolding answered
at_the_ends = refl
