-- `put_fields` writes the fields of a line one after the other: proofs/LineFields.antt.
use Rattle.writing.proofs.Filling.{Filling}
use Rattle.fields.proofs.{LineFields.{line_from}}
use Rattle.fields.proofs.put_fields.Given as goal

abbrev pub invariant-loop-i : goal.invariant-loop-i
invariant-loop-i l = Filling l.initial.buf l.initial.p (line_from l.word l.row 1) l.buf l.p (line_from l.word l.row l.i)
