-- `release_lines` refuses in the order of the checks, and else puts the entries.
use mathlib.Core.{Path.{sym, ◌∙◌, ◌≡◌}, Bool.{false}, List.{[]}}
use lib.ListN.{length}
use Rattle.std.specs.Prelude.{None}
use Rattle.release.specs.Licence.{entries_of, bad_count, first_wrong}
use Rattle.release.proofs.Answers.{count_refused, entry_refused, room_refused, entries_released}
use Rattle.release.proofs.release_lines.Goals as goal
use Rattle.release.proofs.release_lines.Goals.{After-first_wrong, In-None}

-- what the checks found
count_right : (f : After-first_wrong) → bad_count (length f.args.licence.now) ≡ false
count_right f = sym f.bad_count.ensures ∙ f.if-bad_count.false

none_wrong : (e : In-None) → first_wrong [] 1 (entries_of e.args.licence.now) ≡ None
none_wrong e = sym e.first_wrong.ensures ∙ e.in-None.is

pub returns-then-bad_count : goal.returns-then-bad_count
returns-then-bad_count c = count_refused _ _ _ (sym c.bad_count.ensures ∙ c.if-bad_count.true)

pub returns-then-table-entries : goal.returns-then-table-entries
returns-then-table-entries c = room_refused _ _ _ (count_right (goal.at.returns-then-table-entries c).After-first_wrong) (none_wrong (goal.at.returns-then-table-entries c).In-None) c.if-table-entries.true

pub put_entries-requires : goal.put_entries-requires
put_entries-requires c = record { n_le_most_lines = c.requires.n_le_most_lines; stored_bounds = c.requires.stored_bounds; n_in_bounds = c.requires.n_in_bounds; licence_in_bounds = c.if-table-entries.false }

pub returns-in-Some : goal.returns-in-Some
returns-in-Some c =
    entry_refused _ _ _ (count_right (goal.at.returns-in-Some c).After-first_wrong) (sym c.first_wrong.ensures ∙ c.in-Some.is)

pub returns-else-table-entries : goal.returns-else-table-entries
returns-else-table-entries c = entries_released _ _ _ (count_right (goal.at.returns-else-table-entries c).After-first_wrong) (none_wrong (goal.at.returns-else-table-entries c).In-None) c.if-table-entries.false c.put_entries.ensures
