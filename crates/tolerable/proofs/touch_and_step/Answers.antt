-- `touch_and_step` weighs the surface twice over one root.
use Rattle.tolerable.specs.Ends.{touch_ends, step_ends, touch_and_step}
use Rattle.tolerable.proofs.touch_and_step.Goals as goal

pub returns : goal.returns
unfolding touch_and_step touch_ends step_ends
returns c = rw (c.over_root-2.ensures, c.over_root.ensures)
