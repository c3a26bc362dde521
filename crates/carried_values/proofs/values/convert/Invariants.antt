-- `convert` goes line by line: the laws of proofs/Converting.antt.
use Rattle.carried_values.proofs.Converting.{Converting}
use Rattle.carried_values.proofs.values.convert.Given as goal

abbrev pub invariant-loop-i : goal.invariant-loop-i
invariant-loop-i l = Converting l.form l.n l.values l.initial.carried l.carried l.i
