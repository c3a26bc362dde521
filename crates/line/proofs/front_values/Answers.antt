-- `line::front_values` meets its contract: the reading of proofs/ValuesReading.antt, where each value is read in one pass.
use Rattle.std.proofs.Common.{◌<◌, ◌≤◌, refl, length, arith}
use Rattle.text.{specs.Parts.{IsFront}, proofs.{FirstFields.{front_whole}, FieldTurns.{field_next}}}
use Rattle.line.proofs.ValuesReading.{values_step, part_read}
use Rattle.line.proofs.front_values.Goals as goal

pub loop-count-preserved : goal.loop-count-preserved
loop-count-preserved c =
    let a = c.loop-count.invariant in
    let rest = c.loop-count.rest.now in
    let v = c.in-Some.v in
    let part = part_read c.get.result _ _ _ c.get.ensures.lookup.0 c.and_then.ensures c.in-Some.is in
    let within : 7 ≤ length rest = part.1.1 in
    -- the value is the first field that is left
    let read : IsFront part.0.now v = part.2 in
    let front = front_whole 7 rest (rw part.1.2 at read) (omega arith) within in
    let inside : v.end < length rest = omega (arith, front.few, within) in
    record {
      shorter = omega (arith, a.shorter);
      put = values_step a.put (field_next _ _ front.ends inside) front.held (omega (arith, c.requires.count)) _ c.requires refl;
    }
