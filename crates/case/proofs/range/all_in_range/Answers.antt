-- `case::range::all_in_range` meets its contract: of the former form nothing is known.
use mathlib.Core.Path.{◌∙◌}
use Rattle.text.proofs.Clash.{clash}
use Rattle.case.specs.{Columns.{name_count_lem}, Parts.{form_of}}
use Rattle.case.proofs.range.all_in_range.Goals as goal

pub present_in_range-requires : goal.present_in_range-requires
unfolding form_of
present_in_range-requires c = (rw c.in-Present.is at c.requires) ∙ name_count_lem

pub returns-in-Present : goal.returns-in-Present
unfolding form_of
returns-in-Present c e = rw c.in-Present.is (c.present_in_range.ensures e)

pub returns-in-Former : goal.returns-in-Former
returns-in-Former c e = clash cc
