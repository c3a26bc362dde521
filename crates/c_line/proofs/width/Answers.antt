-- `width` says how many numbers a line has.
use mathlib.Core.Path.{sym, ap}
use Rattle.c_line.specs.Line.{width_of}
use Rattle.c_line.proofs.width.Goals as goal

pub returns-in-Margins : goal.returns-in-Margins
unfolding width_of
returns-in-Margins c = sym (ap width_of c.in-Margins.is)

pub returns-in-Working : goal.returns-in-Working
unfolding width_of
returns-in-Working c = sym (ap width_of c.in-Working.is)

pub returns-in-Headroom : goal.returns-in-Headroom
unfolding width_of
returns-in-Headroom c = sym (ap width_of c.in-Headroom.is)
