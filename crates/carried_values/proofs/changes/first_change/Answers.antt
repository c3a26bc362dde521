-- `first_change` meets its contract: nothing is left out on the way to today's form.
use Rattle.case.specs.{Columns.{name_count_lem}, Parts.{form_of}}
use Rattle.carried_values.specs.{Values.{other}, Changes.{changes}}
use Rattle.carried_values.proofs.changes.first_change.Goals as goal

pub changes_of-requires : goal.changes_of-requires
unfolding form_of other
changes_of-requires c = record { n_in_bounds = rw (← name_count_lem) (rw c.in-Former.is at c.requires.n_in_bounds); n_le_most_lines = c.requires.n_le_most_lines }

pub returns-in-Present : goal.returns-in-Present
unfolding changes
returns-in-Present c = rw c.in-Present.is

pub returns-in-Former : goal.returns-in-Former
unfolding changes form_of other
returns-in-Former c = rw (c.in-Former.is, name_count_lem) c.changes_of.ensures
