-- `case::parts::out_of_range` meets its contract: the search of proofs/Leftmost.antt.
use Rattle.case.specs.{Parts.{form_of}}
use Rattle.case.proofs.{Leftmost.{Leftmost}}
use Rattle.case.proofs.parts.out_of_range.Given as goal

abbrev pub invariant-loop-k : goal.invariant-loop-k
invariant-loop-k l = Leftmost (form_of l.form) l.at l.v l.c l.k
