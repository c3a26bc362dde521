use Rattle.claims.proofs.Page.{page}
use Rattle.promises.proofs.ask_factor.Goals as goal

pub returns : goal.returns
returns c = page.factor c.decrement_factor.ensures
