use Rattle.claims.proofs.Page.{page}
use Rattle.promises.proofs.ask_release.Goals as goal

pub returns : goal.returns
returns c = page.release c.release.ensures
