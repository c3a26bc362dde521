use Rattle.claims.proofs.Page.{page}
use Rattle.promises.proofs.ask_row.Goals as goal

pub returns : goal.returns
returns c = page.row c.row.ensures
