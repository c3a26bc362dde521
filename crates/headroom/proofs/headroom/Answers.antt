-- `headroom` follows the checks of the case, then the search.
use mathlib.Core.Path.{sym, ◌∙◌}
use Rattle.refusal.proofs.Passed.{passed_on}
use Rattle.case.proofs.Bounds.{record_bounds}
use Rattle.headroom.specs.Headroom.{RightRoom, checked}
use Rattle.headroom.proofs.Bracket.{right_room}
use Rattle.headroom.proofs.headroom.Goals as goal

pub greatest_fault-requires : goal.greatest_fault-requires
greatest_fault-requires c = record_bounds (sym c.judge.ensures ∙ c.in_ok-judge.was)

pub returns-in_err-judge : goal.returns-in_err-judge
unfolding RightRoom checked
returns-in_err-judge c =
    rw (passed_on _ c.from_residual.ensures.1) (record { checks = sym c.judge.ensures ∙ c.in_err-judge.was; right = tt })

pub returns : goal.returns
unfolding checked
returns c =
    rw c.room_of.ensures
    (record {
      checks = sym c.judge.ensures ∙ c.in_ok-judge.was;
      right = right_room _ _ c.greatest_fault.ensures;
    })
