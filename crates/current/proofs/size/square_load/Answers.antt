-- `square_load` parts x by a million.
use Rattle.current.specs.Size.{square_load}
use Rattle.current.proofs.{SquareLoad.{within}}
use Rattle.current.proofs.size.square_load.Goals as goal

pub square-requires : goal.square-requires
square-requires c = within c.args.x c.args.ms c.requires.x_bound c.requires.ms_bound

pub returns : goal.returns
unfolding square_load
returns c = c.square.ensures
