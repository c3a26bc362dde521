-- The limits of §9.1: "a probe distance a in mm (500..50,000) and a resistance R in milliohms (1..1,000,000)", and "when the count of
-- numbers is 0, odd or above 128".
use Rattle.std.specs.Prelude.{ℕ, Bool, ◌&&◌, leb}
use Rattle.readings.specs.declared.outside.Range.{Range}

-- the most numbers of a list
abbrev pub most_numbers : ℕ
most_numbers = 128

-- in mm
abbrev pub distances : Range
distances = record { low = 500; high = 50000 }

-- in milliohms
abbrev pub resistances : Range
resistances = record { low = 1; high = 1000000 }

unfoldable pub in_range : Range → ℕ → Bool
in_range range n = leb range.low n && leb n range.high
