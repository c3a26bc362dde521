use Rattle.claims.proofs.{Page.{page}}
use Rattle.claims.proofs.held.Goals as goal

pub returns : goal.returns
returns c = page
