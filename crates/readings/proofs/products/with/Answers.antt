-- `with` takes one pair more into the least, the greatest and the sum.
use Rattle.readings.specs.Ends.{with_product}
use Rattle.readings.proofs.products.with.Goals as goal

pub returns : goal.returns
unfolding with_product
returns c = cc
