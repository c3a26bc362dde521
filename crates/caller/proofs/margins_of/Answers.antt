-- `margins_of` hands the numbers of the row that is answered to `margins`.
use mathlib.Core.Path.{ap, ◌∙◌}
use Rattle.margin.specs.Margin.{margins_of}
use Rattle.caller.proofs.{Margins.{refused_none, margins_told}}
use Rattle.caller.proofs.margins_of.Goals as goal

pub returns-in_default : goal.returns-in_default
returns-in_default c = refused_none c.row.ensures c.in_default.is

pub returns : goal.returns
returns c =
    margins_told c.row.ensures c.in-Ok.is (c.margins.ensures ∙ ap margins_of c.row_numbers-numbers.ensures)
