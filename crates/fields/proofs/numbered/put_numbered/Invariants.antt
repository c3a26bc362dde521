-- `put_numbered` writes the word, then a comma and a number for each, then the byte 10: proofs/Refusals.antt.
use Rattle.writing.proofs.Filling.{Filling}
use Rattle.fields.proofs.Refusals.{numbers_from}
use Rattle.fields.proofs.numbered.put_numbered.Given as goal

abbrev pub invariant-loop-n : goal.invariant-loop-n
invariant-loop-n l = Filling l.initial.buf l.initial.p (numbers_from l.numbers 0) l.buf l.p (numbers_from l.numbers l.n-index)
