use Rattle.claims.proofs.Page.{page}
use Rattle.promises.proofs.ask_working.Goals as goal

pub returns : goal.returns
returns c = page.working c.working.ensures
