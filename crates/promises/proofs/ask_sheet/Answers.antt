use Rattle.claims.proofs.Page.{page}
use Rattle.promises.proofs.ask_sheet.Goals as goal

pub returns : goal.returns
returns c = page.demands c.sheet.ensures
