-- `carry_to` calls the operation of the form.
use Rattle.carry_text.proofs.carry_to.Goals as goal

pub returns-in-Present : goal.returns-in-Present
returns-in-Present c = rw c.in-Present.is c.carry.ensures

pub returns-in-Former : goal.returns-in-Former
returns-in-Former c = rw c.in-Former.is c.carry_back.ensures
