-- `floor` adds the quotient's and the remainder's parts.
use Rattle.whole.proofs.{WideProduct.{wide_floor}}
use Rattle.whole.proofs.wide.floor.Goals as goal

pub returns : goal.returns
returns c = wide_floor c.args.k c.args.x c.requires.divisor
