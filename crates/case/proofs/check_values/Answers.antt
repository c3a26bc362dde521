-- `case::check_values` meets its contract, by the laws of proofs/Findings.antt.
use mathlib.Core.Path.{refl, sym, ◌∙◌}
use Rattle.case.proofs.{Findings.{out_of_range_lem, all_in_range}, RangeNumbers.{in_ranges}}
use Rattle.case.proofs.check_values.Goals as goal

pub returns-then-all_in_range : goal.returns-then-all_in_range
returns-then-all_in_range c =
    c.disagreement.ensures ∙ all_in_range _ _ _ (sym (in_ranges _ (c.all_in_range.ensures c.if-all_in_range.true)))
    refl

pub returns-then-column-ne0 : goal.returns-then-column-ne0
returns-then-column-ne0 c = out_of_range_lem _ _ _ c.out_of_range-column.ensures c.if-column-ne0.true

pub returns : goal.returns
returns c = c.disagreement-2.ensures ∙ all_in_range _ _ _ c.out_of_range-column.ensures c.if-column-ne0.false
