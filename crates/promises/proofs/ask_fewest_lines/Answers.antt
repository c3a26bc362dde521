use Rattle.claims.proofs.Page.{page}
use Rattle.promises.proofs.ask_fewest_lines.Goals as goal

pub returns : goal.returns
returns c = page.fewest c.fewest_lines.ensures
