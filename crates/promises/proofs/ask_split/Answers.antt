use Rattle.claims.proofs.Page.{page}
use Rattle.promises.proofs.ask_split.Goals as goal

pub returns : goal.returns
returns c = page.staged_test c.split.ensures
