-- `other_form` meets its contract.
use Rattle.carried_values.specs.Values.{other}
use Rattle.carried_values.proofs.values.other_form.Goals as goal

pub returns-in-Present : goal.returns-in-Present
unfolding other
returns-in-Present c = rw c.in-Present.is

pub returns-in-Former : goal.returns-in-Former
unfolding other
returns-in-Former c = rw c.in-Former.is
