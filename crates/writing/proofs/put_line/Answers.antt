-- `put_line` writes the parts of a line one after the other: proofs/LineWriting.antt.
use Rattle.std.proofs.Common.{◌+◌, ◌<◌, ◌≤◌, length, arith}
use Rattle.writing.specs.Text.{ended, value_line}
use Rattle.writing.proofs.{Filling.{Filling, filling_rest}, Line.{line_from}}
use Rattle.writing.proofs.LineWriting.{first_room, first_step, later_number, later_count, line_start, comma_room, number_room, number_step, end_room}
use Rattle.writing.proofs.{LineWriting.{end_step}}
use Rattle.writing.proofs.put_line.Goals as goal
use Rattle.writing.proofs.put_line.Goals.{After-put_number-p, In-loop-n, After-loop-n}

pub put_number-p-requires : goal.put_number-p-requires
put_number-p-requires c = first_room c.args.buf.now _ c.args.v.now c.requires.v_nonzero c.requires.v_in_bounds

-- after the first number
first : (c : After-put_number-p)
    → let v = c.args.v.now in
    Filling c.args.buf.now c.args.at (ended (value_line v)) c.put_number-p.new.buf c.put_number-p.result (line_from v 1)
first c = first_step _ _ _ c.requires.v_nonzero c.requires.v_in_bounds c.put_number-p.ensures

pub loop-n-init : goal.loop-n-init
loop-n-init c = line_start _ (first (goal.at.loop-n-init c).After-put_number-p)

-- a turn has a number left
within : (c : In-loop-n) → c.loop-n.n-index + 1 < length c.args.v.now
within c = omega (arith, c.loop-n-test.true, later_count c.args.v.now)

pub bounds-buf-p : goal.bounds-buf-p
bounds-buf-p c = comma_room c.loop-n.invariant (within (goal.at.bounds-buf-p c).In-loop-n)

pub overflow_add-p : goal.overflow_add-p
overflow_add-p c = omega (arith, comma_room c.loop-n.invariant (within (goal.at.overflow_add-p c).In-loop-n), c.loop-n.invariant.filling.size)

pub put_number-p-requires-in-loop-n : goal.put_number-p-requires-in-loop-n
put_number-p-requires-in-loop-n c =
    rw later_number (number_room c.loop-n.invariant (within (goal.at.put_number-p-requires-in-loop-n c).In-loop-n))

pub loop-n-preserved : goal.loop-n-preserved
loop-n-preserved c =
    number_step c.loop-n.invariant (within (goal.at.loop-n-preserved c).In-loop-n) (rw later_number at c.put_number-p-in-loop-n.ensures)

-- no number is left
none : (c : After-loop-n) → length c.args.v.now ≤ c.loop-n.n-index + 1
none c = omega (arith, c.loop-n-test.false, later_count c.args.v.now)

pub bounds-buf-p-2 : goal.bounds-buf-p-2
bounds-buf-p-2 c = end_room c.loop-n.invariant (none (goal.at.bounds-buf-p-2 c).After-loop-n)

pub overflow_add-result : goal.overflow_add-result
overflow_add-result c = omega (arith, end_room c.loop-n.invariant (none (goal.at.overflow_add-result c).After-loop-n), c.loop-n.invariant.filling.size)

pub returns : goal.returns
returns c = filling_rest (first (goal.at.returns c).After-put_number-p) (end_step c.loop-n.invariant (none (goal.at.returns c).After-loop-n))
