use Rattle.claims.proofs.Page.{page}
use Rattle.promises.proofs.ask_verdict.Goals as goal

pub returns : goal.returns
returns c = page.verdict_printed c.text.ensures
