-- `argument_log` asks the logarithm of G: both numbers are inside its range.
use Rattle.mesh.specs.Factor.{argument_log}
use Rattle.mesh.proofs.{Argument.{top_inside, bottom_inside}}
use Rattle.mesh.proofs.factor.argument_log.Goals as goal

pub ln_ends-requires : goal.ln_ends-requires
ln_ends-requires c =
    rw (c.argument_bottom.ensures, c.argument_top.ensures) (top_inside c.requires, bottom_inside c.requires)

pub returns : goal.returns
unfolding argument_log
returns c = cc
