use Rattle.claims.proofs.Page.{page}
use Rattle.promises.proofs.ask_margins.Goals as goal

pub returns : goal.returns
returns c = page.margins c.margins.ensures
