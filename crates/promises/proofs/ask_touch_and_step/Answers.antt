use Rattle.claims.proofs.Page.{page}
use Rattle.promises.proofs.ask_touch_and_step.Goals as goal

pub returns : goal.returns
returns c = page.touch_and_step_lem c.touch_and_step.ensures
