-- `logarithm::terms::series` meets its contract: after i terms the power and the sum are those of the definition.
use Rattle.logarithm.proofs.{Sums.{Summed}}
use Rattle.logarithm.proofs.terms.series.Given as goal

abbrev pub invariant-loop-i : goal.invariant-loop-i
invariant-loop-i l = Summed l.z l.square l.i l.power l.sum
