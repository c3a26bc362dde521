use Rattle.claims.proofs.Page.{page}
use Rattle.promises.proofs.ask_carry.Goals as goal

pub returns : goal.returns
returns c = page.carry c.carry.ensures
