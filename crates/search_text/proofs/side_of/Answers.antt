-- `side_of` reads a line that is not a value as 0.
use Rattle.std.proofs.Common.{ap, ◌∙◌}
use Rattle.search_text.specs.Fewest.{side_of}
use Rattle.search_text.proofs.side_of.Goals as goal

pub returns : goal.returns
unfolding side_of
returns c = c.unwrap_or.ensures ∙ ap side_of c.value.ensures
