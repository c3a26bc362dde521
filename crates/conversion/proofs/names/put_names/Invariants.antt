-- `put_names` puts the names one after the other, each with the byte after it: proofs/NamesLine.antt.
use Rattle.case.specs.Parts.{form_of}
use Rattle.conversion.proofs.NamesLine.{NamesAt}
use Rattle.conversion.proofs.names.put_names.Given as goal

abbrev pub invariant-loop-k : goal.invariant-loop-k
invariant-loop-k l = NamesAt (form_of l.form) l.initial.line l.line l.p l.k
