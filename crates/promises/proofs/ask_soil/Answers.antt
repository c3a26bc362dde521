use Rattle.claims.proofs.Page.{page}
use Rattle.promises.proofs.ask_soil.Goals as goal

pub returns : goal.returns
returns c = page.soil c.soil.ensures
