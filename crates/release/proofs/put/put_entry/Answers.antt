-- `put_entry` counts the lines of its station and puts the eight numbers in their own part of the table.
use Prim.Native.Nat.{ℕ, ◌≤◌}
use mathlib.Core.{Path.{ap, ◌∙◌, ◌≡◌}, List.{List}}
use borrow.Author.Rules.{rules}
use Rattle.case.specs.declared.Case.{Case}
use Rattle.table_rows.specs.Rows.{stored_cases}
use Rattle.tally.specs.{Lines.{lines_of, first_line}, declared.Tally.{Tally}, Tally.{tally_of, Small, missing_by}}
use Rattle.tally.proofs.{Counts.{tally_small, missing_most}, StationLines.{lines_most}}
use Rattle.release.specs.Entry.{eight, station_numbers}
use Rattle.release.proofs.{Tables.{eight_is, entry_written}}
use Rattle.release.proofs.put.put_entry.Goals as goal
use Rattle.release.proofs.put.put_entry.Goals.{After-missing_seasons-without}

-- what is counted of the station
module _ (m : After-missing_seasons-without) where
  abbrev lines : List Case
  lines = lines_of m.args.station (stored_cases m.args.values.now m.args.n)

  tally_is : m.count_lines-t.result ≡ tally_of (first_line lines) m.args.area lines
  tally_is =
      m.count_lines-t.ensures ∙ ap (λ (y : Case). tally_of y m.args.area lines) m.first_line-yard.ensures

  counted : (m.missing_seasons-without.result ≤ 4) × Small m.count_lines-t.result
  counted = (
    rw m.missing_seasons-without.ensures (missing_most m.args.seasons _),
    rw tally_is (tally_small (first_line lines) m.args.area lines (lines_most _ _ _ m.requires.n_le_most_lines)),
  )

  numbers_are : eight m.args.station m.missing_seasons-without.result m.count_lines-t.result
      ≡ station_numbers m.args.station m.args.seasons m.args.area (stored_cases m.args.values.now
      m.args.n)
  unfolding station_numbers
  numbers_are =
      ap (λ (k : ℕ). eight m.args.station k m.count_lines-t.result) m.missing_seasons-without.ensures
      ∙ ap (λ (t : Tally). eight m.args.station (missing_by m.args.seasons t) t) tally_is
      ∙ eight_is m.args.station m.args.seasons m.args.area lines

pub put_numbers-requires : goal.put_numbers-requires
put_numbers-requires c = record { without_bound = (counted (goal.at.put_numbers-requires c).After-missing_seasons-without).0; small = (counted (goal.at.put_numbers-requires c).After-missing_seasons-without).1; part_len = search rules }

pub returns : goal.returns
returns c = rw (← numbers_are (goal.at.returns c).After-missing_seasons-without) (entry_written c.args.i c.args.table.now _ _ _ _ c.requires.entry_length_in_bounds c.put_numbers.ensures)
