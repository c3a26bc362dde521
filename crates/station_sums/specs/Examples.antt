-- §7.1: the summary computed: stations scattered over the lines, a tie, four seasons.
use Rattle.std.specs.Prelude.{ℕ}
use mathlib.Core.{Path.{◌≡◌, refl}, List.{[], ◌∷◌}}
use Rattle.std.specs.Prelude.{pos}
use Rattle.whole.specs.Count.{one}
use Rattle.interval.specs.Operations.{natural}
use Rattle.decision.specs.{declared.Verdict.{TheVariants.{Safe, Unsafe, Undecided}, Verdict}, Verdict.{verdict_number}}
use Rattle.row.specs.declared.Row.{Row}
use Rattle.station_sums.specs.Summary.{same_z, among, by_appearance, stations, rows_of, count_of, higher, highest, worst_season}
use Rattle.station_sums.specs.Summary.{station_numbers, summary_of, filled}

-- a row of which the summary reads these: station, season, verdict, lower and upper mesh end
abbrev row : ℕ → ℕ → Verdict → ℕ → ℕ → Row
row station season v lower upper =
    record {
      station = pos station;
      season = pos season;
      verdict = v;
      size = pos 0;
      current = natural 0 0;
      factor = natural 0 0;
      tolerable_touch = natural 0 0;
      tolerable_step = natural 0 0;
      mesh = natural lower upper;
      step = natural 0 0;
      resistance = natural 0 0;
      rise = natural 0 0;
    }

-- seasons 1 and 2 of station 7 have the same upper mesh end: the earlier line stands, though season 2 has the higher lower end
two : summary_of (row 7 1 Safe 90 100 ∷ row 9 4 Unsafe 40 50 ∷ row 7 2 Undecided 95 100 ∷ row 7 3 Safe 80 90 ∷ [])
    ≡ (pos 7 ∷ pos 3 ∷ pos 2 ∷ pos 0 ∷ pos 1 ∷ pos 1 ∷ []) ∷ (pos 9 ∷ pos 1 ∷ pos 0 ∷ pos 1 ∷ pos 0 ∷ pos 4 ∷ []) ∷ []
unfolding same_z one among by_appearance stations rows_of count_of higher highest worst_season station_numbers summary_of verdict_number natural
two = refl

-- four seasons, the last the worst; station 2 is named first, though 1 is the lower number
four : summary_of (row 2 3 Safe 1 2 ∷ row 1 4 Unsafe 1 7 ∷ row 1 2 Unsafe 1 5 ∷ row 1 3 Safe 1 6 ∷ row 1 1 Undecided 1 8 ∷ [])
    ≡ (pos 2 ∷ pos 1 ∷ pos 1 ∷ pos 0 ∷ pos 0 ∷ pos 3 ∷ []) ∷ (pos 1 ∷ pos 4 ∷ pos 1 ∷ pos 2 ∷ pos 1 ∷ pos 1 ∷ []) ∷ []
unfolding same_z one among by_appearance stations rows_of count_of higher highest worst_season station_numbers summary_of verdict_number natural
four = refl

-- a table of eight numbers after a summary of one station
kept : filled (summary_of (row 5 2 Safe 1 2 ∷ [])) (pos 11 ∷ pos 12 ∷ pos 13 ∷ pos 14 ∷ pos 15 ∷ pos 16 ∷ pos 17 ∷ pos 18 ∷ [])
    ≡ pos 5 ∷ pos 1 ∷ pos 1 ∷ pos 0 ∷ pos 0 ∷ pos 2 ∷ pos 17 ∷ pos 18 ∷ []
unfolding same_z one among by_appearance stations rows_of count_of higher highest worst_season station_numbers summary_of filled verdict_number
    natural
kept = refl
