-- `judgement::read_within` meets its contract: each form has its own count of names.
use mathlib.Core.Path.{sym}
use Rattle.case.specs.{Columns.{name_count_lem, former_name_count_lem}, Parts.{form_of}}
use Rattle.header.specs.Header.{no_columns}
use Rattle.judgement.proofs.read_within.Goals as goal

pub read_by-requires : goal.read_by-requires
unfolding form_of no_columns
read_by-requires c =
    let t = c.in-Present.is in
    record { at_value = rw t (rw name_count_lem); order_len = rw t (sym name_count_lem); room = c.requires }

pub read_by-requires-in-Former : goal.read_by-requires-in-Former
unfolding form_of no_columns
read_by-requires-in-Former c =
    let t = c.in-Former.is in
    record { at_value = rw t (rw former_name_count_lem); order_len = rw t (sym former_name_count_lem); room = c.requires }

pub shape_of-values-in-Present : goal.shape_of-values-in-Present
shape_of-values-in-Present c = c.read_by.ensures.size

pub returns-in-Present : goal.returns-in-Present
returns-in-Present c = c.read_by.ensures

pub shape_of-values-in-Former : goal.shape_of-values-in-Former
shape_of-values-in-Former c = c.read_by-in-Former.ensures.size

pub returns-in-Former : goal.returns-in-Former
returns-in-Former c = c.read_by-in-Former.ensures
