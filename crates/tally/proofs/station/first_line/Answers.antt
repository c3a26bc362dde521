-- `first_line` goes up to the first line of the station.
use Rattle.std.proofs.Common.{◌≡◌, ◌∙◌, arith}
use Rattle.tally.proofs.StationLines.{before_more, first_here, first_none}
use Rattle.tally.proofs.station.first_line.Goals as goal

pub returns-then-values-i : goal.returns-then-values-i
returns-then-values-i c = c.line_case.ensures ∙ first_here c.loop-i.invariant c.loop-i-test.true c.if-values-i.true

pub loop-i-preserved : goal.loop-i-preserved
loop-i-preserved c = before_more c.loop-i.invariant c.loop-i-test.true c.if-values-i.false

pub returns : goal.returns
returns c =
    let all : c.loop-i.i ≡ c.args.n = omega (arith, c.loop-i-test.false) in
    c.case_of.ensures ∙ first_none (rw all at c.loop-i.invariant)
