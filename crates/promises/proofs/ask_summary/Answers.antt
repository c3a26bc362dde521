use Rattle.claims.proofs.Page.{page}
use Rattle.promises.proofs.ask_summary.Goals as goal

pub returns : goal.returns
returns c = page.summary c.summary.ensures
