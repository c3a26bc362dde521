-- `case::name_count` meets its contract.
use mathlib.Core.Path.{sym}
use Rattle.case.specs.{Columns.{name_count_lem, former_name_count_lem}, Parts.{form_of}}
use Rattle.case.proofs.name_count.Goals as goal

pub returns-in-Present : goal.returns-in-Present
unfolding form_of
returns-in-Present c = rw c.in-Present.is (sym name_count_lem)

pub returns-in-Former : goal.returns-in-Former
unfolding form_of
returns-in-Former c = rw c.in-Former.is (sym former_name_count_lem)
