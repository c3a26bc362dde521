-- `read_value_line` distinguishes no line, more than one, and a wrong one: proofs/OneLines.antt.
use mathlib.Core.Path.{◌≡◌}
use lib.ListN.{length, take}
use Rattle.text.proofs.FieldTurns.{part_length}
use Rattle.case.specs.Columns.{name_count}
use Rattle.line.specs.Parts.{LineValues}
use Rattle.one_line.proofs.OneLines.{no_line, more_lines, wrong_line, right_line}
use Rattle.one_line.proofs.reading.read_value_line.Goals as goal
use Rattle.one_line.proofs.reading.read_value_line.Goals.{After-read_values}

pub returns-then-s-eq0 : goal.returns-then-s-eq0
returns-then-s-eq0 c = no_line c.args.s.now c.args.order.now c.requires.values_len c.if-s-eq0.true

pub returns-then-skip-s : goal.returns-then-skip-s
returns-then-skip-s c =
    more_lines c.args.s.now c.args.order.now c.requires.values_len c.if-s-eq0.false c.find-e.ensures
    c.skip.ensures c.if-skip-s.true

pub slice_bounds-read_values-end : goal.slice_bounds-read_values-end
slice_bounds-read_values-end c = part_length 10 _ _ c.find-e.ensures

pub read_values-requires : goal.read_values-requires
read_values-requires c = rw c.requires.values_len c.requires.distinct

-- the line that was read
module _ (v : After-read_values) where
  line_values_lem : LineValues name_count v.args.order.now (take v.find-e.result v.args.s.now) v.read_values.result v.read_values.new.row
  line_values_lem = rw v.requires.values_len at v.read_values.ensures

  values_count : length v.read_values.new.row ≡ name_count
  values_count = line_values_lem.count

pub returns-in-Err : goal.returns-in-Err
returns-in-Err c =
    wrong_line c.args.s.now c.args.order.now (values_count (goal.at.returns-in-Err c).After-read_values) c.if-s-eq0.false c.find-e.ensures
    c.skip.ensures c.if-skip-s.false (line_values_lem (goal.at.returns-in-Err c).After-read_values) c.in-Err.is

pub returns-in-Ok : goal.returns-in-Ok
returns-in-Ok c =
    right_line c.args.s.now c.args.order.now (values_count (goal.at.returns-in-Ok c).After-read_values) c.if-s-eq0.false c.find-e.ensures
    c.skip.ensures c.if-skip-s.false (line_values_lem (goal.at.returns-in-Ok c).After-read_values) c.in-Ok.is
