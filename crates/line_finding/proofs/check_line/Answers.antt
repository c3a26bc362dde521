-- `check_line` meets its contract, by the laws of proofs/LineChecked.antt.
use lib.ListN.{length}
use Rattle.case.{specs.Parts.{form_of}, proofs.Order.{distinct}}
use Rattle.line.{specs.Parts.{LineValues}, proofs.Arranging.{arranged}}
use Rattle.line_finding.proofs.{Keys.{form_keyed, key_fits}, LineChecked.{judged_form, judged_values}}
use Rattle.line_finding.proofs.check_line.Goals as goal
use Rattle.line_finding.proofs.check_line.Goals.{After-read_values}

pub read_values-requires : goal.read_values-requires
read_values-requires c = rw c.requires.row_len (distinct c.requires.ordered)

line_values_lem : (v : After-read_values)
    → LineValues (length (form_of v.args.form)) v.args.order.now v.args.line.now v.read_values.result
    v.read_values.new.row
line_values_lem v = rw v.requires.row_len at v.read_values.ensures

pub shape_of-row-in-Err : goal.shape_of-row-in-Err
shape_of-row-in-Err c = c.read_values.ensures.count

pub returns-in-Err : goal.returns-in-Err
returns-in-Err c = judged_form _ (line_values_lem (goal.at.returns-in-Err c).After-read_values) _ c.in-Err.is

pub values_finding-requires : goal.values_finding-requires
values_finding-requires c =
    record { placed = c.requires.placed; v_len = (line_values_lem (goal.at.values_finding-requires c).After-read_values).count; n_in_bounds = c.requires.n_in_bounds; at_most = c.requires.at_most }

pub shape_of-row-in-Ok : goal.shape_of-row-in-Ok
shape_of-row-in-Ok c = c.read_values.ensures.count

pub returns-in-Ok : goal.returns-in-Ok
returns-in-Ok c =
    judged_values _ (line_values_lem (goal.at.returns-in-Ok c).After-read_values) _ _ (form_keyed c.args.form)
    (key_fits c.args.form _ c.requires.placed (line_values_lem (goal.at.returns-in-Ok c).After-read_values).count) c.in-Ok.is
    (arranged c.requires.placed c.requires.ordered (line_values_lem (goal.at.returns-in-Ok c).After-read_values) c.in-Ok.is) c.values_finding.ensures
