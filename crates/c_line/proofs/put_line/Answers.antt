-- `put_line` puts what is asked.
use mathlib.Core.Path.{ap, ◌∙◌}
use Rattle.c_line.specs.Line.{width_of, LineOf}
use Rattle.c_line.proofs.put_line.Goals as goal

pub put_margins-requires : goal.put_margins-requires
unfolding width_of
put_margins-requires c =
    record { bounds = c.requires.bounds; part_len = c.requires.part_len ∙ ap width_of c.in-Margins.is }

pub put_working-requires : goal.put_working-requires
unfolding width_of
put_working-requires c =
    record { bounds = c.requires.bounds; part_len = c.requires.part_len ∙ ap width_of c.in-Working.is }

pub put_headroom-requires : goal.put_headroom-requires
unfolding width_of
put_headroom-requires c =
    record { bounds = c.requires.bounds; part_len = c.requires.part_len ∙ ap width_of c.in-Headroom.is }

pub returns-in-Margins : goal.returns-in-Margins
unfolding LineOf
returns-in-Margins c = rw c.in-Margins.is c.put_margins.ensures

pub returns-in-Working : goal.returns-in-Working
unfolding LineOf
returns-in-Working c = rw c.in-Working.is c.put_working.ensures

pub returns-in-Headroom : goal.returns-in-Headroom
unfolding LineOf
returns-in-Headroom c = rw c.in-Headroom.is c.put_headroom.ensures
