use Rattle.claims.proofs.Page.{page}
use Rattle.promises.proofs.ask_resistance.Goals as goal

pub returns : goal.returns
returns c = page.grid_resistance_lem c.resistance.ensures
