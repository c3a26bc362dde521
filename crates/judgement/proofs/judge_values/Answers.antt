-- `judgement::judge_values` meets its contract, by the laws of proofs/Whole.antt.
use native.Mathlib.Omega.{arith}
use borrow.Author.Rules.{rules}
use Rattle.judgement.proofs.{Whole.{values_none, values_many, values_some}}
use Rattle.judgement.proofs.judge_values.Goals as goal

pub returns-then-n-eq0 : goal.returns-then-n-eq0
returns-then-n-eq0 c = values_none _ _ _ _ c.count_lines-n.ensures _ c.if-n-eq0.true

pub returns-then-n-gt-LINES : goal.returns-then-n-gt-LINES
returns-then-n-gt-LINES c = values_many _ _ _ _ c.count_lines-n.ensures _ (search rules)

pub check_lines-requires : goal.check_lines-requires
check_lines-requires c =
    let p = c.requires in
    record { placed = p.placed; ordered = p.ordered; count_value = c.count_lines-n.ensures; count_le_most_lines = c.if-n-gt-LINES.false; count_in_bounds = p.room.enough (omega (arith, c.count_lines-n.ensures)) c.if-n-gt-LINES.false }

pub shape_of-values : goal.shape_of-values
shape_of-values c = c.check_lines.ensures.size

pub returns : goal.returns
returns c =
    values_some _ _ _ _ c.count_lines-n.ensures c.if-n-eq0.false c.if-n-gt-LINES.false c.check_lines.ensures
