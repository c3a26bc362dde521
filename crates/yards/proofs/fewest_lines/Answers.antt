-- `fewest_lines` follows the checks of the case, then those of the side; what holds of such an answer is a law.
use mathlib.Core.Path.{◌≡◌, sym, ap, ◌∙◌}
use Rattle.refusal.proofs.Passed.{passed_on}
use Rattle.case.specs.Check.{record_judged, record_answer}
use Rattle.yards.specs.{Yards.{trial}, Fewest.{answer}}
use Rattle.yards.proofs.Answers.{answered}
use Rattle.yards.proofs.fewest_lines.Goals as goal
use Rattle.yards.proofs.fewest_lines.Goals.{After-judge}

-- what the checks of the case answer
judged : (c : After-judge) → c.judge.result ≡ record_judged (trial c.args.c)
judged c = c.judge.ensures ∙ ap record_judged c.trial.ensures

pub side_answer-requires : goal.side_answer-requires
side_answer-requires c = sym (judged (goal.at.side_answer-requires c).After-judge) ∙ c.in_ok-judge.was

pub returns-in_err-judge : goal.returns-in_err-judge
unfolding answer record_answer
returns-in_err-judge c =
    answered _ _ (rw (passed_on _ c.from_residual.ensures.1, sym (judged (goal.at.returns-in_err-judge c).After-judge) ∙ c.in_err-judge.was))

pub returns : goal.returns
unfolding answer record_answer
returns c = answered _ _ (c.side_answer.ensures ∙ rw (sym (judged (goal.at.returns c).After-judge) ∙ c.in_ok-judge.was))
