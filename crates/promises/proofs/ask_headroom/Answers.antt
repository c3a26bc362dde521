use Rattle.claims.proofs.Page.{page}
use Rattle.promises.proofs.ask_headroom.Goals as goal

pub returns : goal.returns
returns c = page.headroom c.headroom.ensures
