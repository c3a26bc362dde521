-- `is_short` says yes of few lines alone.
use borrow.Author.Tests.{leb-true}
use native.Mathlib.Omega.{arith}
use Rattle.text.proofs.Clash.{clash}
use Rattle.c_entry.proofs.is_short.Goals as goal

pub returns-then-s-gt-SHORT_BYTES : goal.returns-then-s-gt-SHORT_BYTES
returns-then-s-gt-SHORT_BYTES c = λ e. clash cc

pub returns : goal.returns
returns c = λ e. omega (arith, leb-true c.count_lines.result 8 e, c.count_lines.ensures)
