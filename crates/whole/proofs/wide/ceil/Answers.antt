-- `ceil` adds the quotient's and the remainder's parts, the remainder's rounded up.
use Rattle.whole.proofs.{WideProduct.{wide_ceil}}
use Rattle.whole.proofs.wide.ceil.Goals as goal

pub returns : goal.returns
returns c = wide_ceil c.args.k c.args.x c.requires.divisor
