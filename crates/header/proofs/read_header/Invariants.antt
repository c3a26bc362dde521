-- `header::read_header` meets its contract: the reading of proofs/HeaderReading.antt.
use Rattle.std.proofs.Common.{◌+◌}
use Rattle.case.{specs.{Parts.{form_of}}}
use Rattle.header.proofs.HeaderReading.{HeaderTurn}
use Rattle.header.proofs.read_header.Given as goal

abbrev pub invariant-loop-i : goal.invariant-loop-i
invariant-loop-i l = HeaderTurn (form_of l.form) l.line l.at l.order l.rest (l.i + 1)
