-- `judgement::read` meets its contract: a store for as many value lines as a sheet may have has room for those of any sheet.
use Rattle.judgement.proofs.{Whole.{most_room}}
use Rattle.judgement.proofs.read.Goals as goal

pub read_within-requires : goal.read_within-requires
read_within-requires c = most_room _ c.requires

pub shape_of-values : goal.shape_of-values
shape_of-values c = c.read_within.ensures.size

pub returns : goal.returns
returns c = c.read_within.ensures
