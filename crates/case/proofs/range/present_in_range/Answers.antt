-- `case::range::present_in_range` meets its contract: the pass of proofs/RangeNumbers.antt.
use mathlib.Core.Path.{◌∙◌}
use native.Mathlib.Omega.{arith}
use Rattle.case.specs.{Columns.{name_count_lem}, Parts.{form_of}}
use Rattle.case.proofs.{RangeNumbers.{tested_start, tested_step, tested_end}}
use Rattle.case.proofs.range.present_in_range.Goals as goal

pub loop-k-init : goal.loop-k-init
loop-k-init c = tested_start _

pub range_of-requires : goal.range_of-requires
unfolding form_of
range_of-requires c = omega (arith, name_count_lem)

pub loop-k-preserved : goal.loop-k-preserved
unfolding form_of
loop-k-preserved c = tested_step c.loop-k.invariant c.loop-k-test.true (c.holds-all.ensures ∙ c.range_of.ensures _)

pub returns : goal.returns
returns c all = tested_end c.loop-k.invariant (omega arith) all
