-- Margins (§6.5) computed by hand.
use mathlib.Core.{Path.{◌≡◌, refl}, List.{List, [], ◌∷◌}}
use Rattle.std.specs.Prelude.{ℤ, pos, negsuc, Some, None}
use Rattle.whole.specs.Whole.{ceil_div}
use Rattle.margin.specs.Margin.{margin, in_range, comparable, four_margins, margins_of}

-- the sample (§3.3), seasons 1 and 2: 22.3 percent above and 68.2 below; then at the limit, one mV above it, one below, nothing, twice as
-- much
pub worked : margin 1027841 840547 ∷ margin 256960 809960 ∷ margin 840547 840547 ∷ margin 840548 840547 ∷ margin 840546 840547
    ∷ margin 0 840547 ∷ margin 2000 1000 ∷ []
    ≡ pos 223 ∷ negsuc 681 ∷ pos 0 ∷ pos 1 ∷ pos 0 ∷ negsuc 999 ∷ pos 1000 ∷ []
unfolding margin ceil_div
worked = refl

-- the row of season 1
abbrev sample : List ℤ
sample =
    pos 7 ∷ pos 1 ∷ pos 2 ∷ pos 17 ∷ pos 1957957253 ∷ pos 1957957256 ∷ pos 1026183047 ∷ pos 1026183048 ∷ pos 840547 ∷ pos 840548 ∷
    pos 2696095 ∷ pos 2696098 ∷ pos 1027839 ∷ pos 1027841 ∷ pos 625691 ∷ pos 625692 ∷ pos 2775693 ∷ pos 2775694 ∷ pos 5434688 ∷ pos 5434691
    ∷ []

-- its margins; none of numbers that are not twenty, of a tolerable voltage of 0, of a voltage below 0
pub of_a_row : margins_of sample ∷ margins_of (pos 7 ∷ sample) ∷ four_margins (pos 1) (pos 0) (pos 1) (pos 1)
    ∷ four_margins (pos 1) (pos 1) (negsuc 0) (pos 1) ∷ []
    ≡ Some (pos 223, negsuc 766) ∷ None ∷ None ∷ None ∷ []
unfolding margins_of four_margins comparable in_range margin ceil_div
of_a_row = refl
