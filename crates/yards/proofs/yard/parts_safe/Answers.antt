-- `parts_safe` asks the verdict of the parts.
use mathlib.Core.Path.{◌∙◌}
use Rattle.row.specs.{Parts.{fixed_of, driven_of}, Ends.{case_verdict}}
use Rattle.yards.specs.Yards.{is_safe}
use Rattle.yards.proofs.yard.parts_safe.Goals as goal

pub returns : goal.returns
unfolding is_safe case_verdict fixed_of driven_of
returns c =
    c.means_safe.ensures ∙ rw (c.verdict_of.ensures, c.requires.fixed_value, c.requires.driven_value)
