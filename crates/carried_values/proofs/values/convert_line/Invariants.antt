-- `convert_line` puts value by value.
use Rattle.std.proofs.Common.{◌≡◌, take}
use Rattle.carried_values.specs.Values.{carried}
use Rattle.carried_values.proofs.values.convert_line.Given as goal

abbrev pub invariant-loop-k : goal.invariant-loop-k
invariant-loop-k l = take l.k l.row ≡ take l.k (carried l.form l.v)
