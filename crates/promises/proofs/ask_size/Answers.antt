use Rattle.claims.proofs.Page.{page}
use Rattle.promises.proofs.ask_size.Goals as goal

pub returns : goal.returns
returns c = page.size c.conductor_size.ensures
