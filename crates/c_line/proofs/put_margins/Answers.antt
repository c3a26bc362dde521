-- `put_margins` puts the margins of the case's row.
use mathlib.Core.Path.{◌≡◌, sym, ap, ◌∙◌}
use native.Mathlib.Omega.{arith}
use borrow.Author.Rules.{rules}
use mir.{Syntax.{w64}, Val.{SFits}}
use Rattle.row.specs.{Row.{numbers}, Ends.{row_of}}
use Rattle.margin.specs.Margin.{margins_of}
use Rattle.c_line.proofs.{LineParts.{put_whole, read_both, margins_some, margins_line}}
use Rattle.c_line.proofs.put_margins.Goals as goal
use Rattle.c_line.proofs.put_margins.Goals.{After-margins, In-Some}

held : (c : In-Some) → SFits w64 c.in-Some.mesh × SFits w64 c.in-Some.step
held c = search rules

-- what the margins were asked of
asked : (m : After-margins)
    → m.margins.result ≡ margins_of (numbers (row_of m.args.c))
asked m =
    m.margins.ensures ∙ ap margins_of (m.put_row.ensures ∙ ap numbers m.work_row.ensures)

pub put_first-requires : goal.put_first-requires
put_first-requires c =
    omega (arith, c.requires.part_len)

pub returns-in-Some : goal.returns-in-Some
returns-in-Some c =
    let h = held (goal.at.returns-in-Some c).In-Some in
    margins_line c.requires.bounds (asked (goal.at.returns-in-Some c).After-margins) c.in-Some.is
    (c.put_first.ensures ∙ put_whole _ c.args.part.now c.requires.part_len ∙ read_both h.0 h.1)

pub returns-in-None : goal.returns-in-None
returns-in-None c =
    absurd (margins_some c.requires.bounds (sym (asked (goal.at.returns-in-None c).After-margins) ∙ c.in-None.is))
