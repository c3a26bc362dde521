use Rattle.claims.proofs.Page.{page}
use Rattle.promises.proofs.ask_logarithm.Goals as goal

pub returns : goal.returns
returns c = page.logarithm c.logarithm.ensures
