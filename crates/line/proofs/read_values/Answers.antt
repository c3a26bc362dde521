-- `line::read_values` meets its contract: the reading of proofs/ValuesReading.antt.
use Rattle.std.proofs.Common.{◌≡◌, ◌+◌, Err, refl, [], length, get_or, arith}
use Rattle.std.proofs.lemmas.Grind.{common_steps}
use lib.ListN.{set}
use Rattle.text.{specs.Text.{fields_of}, proofs.FieldTurns.{field_first, field_last, field_next}}
use Rattle.line.specs.Parts.{ValuesAt}
use Rattle.line.proofs.ValuesReading.{values_wrong, values_step, values_refused, values_many, values_few, values_end}
use Rattle.line.proofs.read_values.Goals as goal
use Rattle.line.proofs.read_values.Goals.{Then-rest-first}

pub returns-in_err-x : goal.returns-in_err-x
returns-in_err-x c =
    let a = c.loop-c.invariant.put in
    let wrong = c.in_err-x.ensures.ok_part in
    let column = rw wrong at c.in_err-x.ensures.value in
    let refused : c.from_residual.result ≡ Err (c.loop-c.c + 1) = grind (arith, common_steps, column) in
    rw refused (values_refused _ a.count (values_wrong a (field_first _ _ c.first_field-first.ensures.ends) c.first_field-first.ensures.held (omega arith) wrong))

-- the last value
stepped : (c : Then-rest-first)
    → ValuesAt (length c.args.row.now) c.args.order.now (fields_of c.args.line.now)
    (set c.loop-c.row (get_or c.args.order.now c.loop-c.c 0) c.in_ok-x.x) [] (c.loop-c.c + 1)
stepped c =
    let m = c.first_field-first.ensures in
    values_step c.loop-c.invariant.put (field_last _ _ m.ends c.if-rest-first.true) m.held (omega arith) _ c.requires c.in_ok-x.ensures.ok_part

pub returns-then-c-n : goal.returns-then-c-n
returns-then-c-n c =
    let column : c.loop-c.c + 1 + 1 ≡ c.loop-c.c + 2 = omega arith in
    rw column at (values_few (stepped (goal.at.returns-then-c-n c).Then-rest-first) (omega arith))

pub returns-else-c-n : goal.returns-else-c-n
returns-else-c-n c = values_end (stepped (goal.at.returns-else-c-n c).Then-rest-first) (omega arith)

pub loop-c-preserved : goal.loop-c-preserved
loop-c-preserved c =
    let a = c.loop-c.invariant in
    let m = c.first_field-first.ensures in
    record {
      shorter = omega (arith, a.shorter);
      put = values_step a.put (field_next _ _ m.ends c.if-rest-first.false) m.held (omega arith) _ c.requires c.in_ok-x.ensures.ok_part;
    }

pub returns : goal.returns
returns c = values_many c.loop-c.invariant.put (field_first c.loop-c.rest.now _ refl) (omega arith)
