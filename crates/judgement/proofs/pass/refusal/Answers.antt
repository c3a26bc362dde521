-- `judgement::pass::refusal` meets its contract.
use Rattle.judgement.specs.Refusal.{line_judgement}
use Rattle.judgement.proofs.pass.refusal.Goals as goal

pub returns-in-Sound : goal.returns-in-Sound
unfolding line_judgement
returns-in-Sound c = rw c.in-Sound.is

pub returns-in-Form : goal.returns-in-Form
unfolding line_judgement
returns-in-Form c = rw c.in-Form.is

pub returns-in-OutOfRange : goal.returns-in-OutOfRange
unfolding line_judgement
returns-in-OutOfRange c = rw c.in-OutOfRange.is

pub returns-in-Disagreement : goal.returns-in-Disagreement
unfolding line_judgement
returns-in-Disagreement c = rw c.in-Disagreement.is

pub returns-in-Repeated : goal.returns-in-Repeated
unfolding line_judgement
returns-in-Repeated c = rw c.in-Repeated.is
