-- `seen` meets its contract: a key above them all is none of them, and else the library's search answers.
use mathlib.Core.Path.{sym, ◌∙◌}
use borrow.Author.Tests.{lt-leb}
use Rattle.line_finding.proofs.{Keys.{not_seen, seen_any}}
use Rattle.line_finding.proofs.seen.Goals as goal

pub returns-then-key-most : goal.returns-then-key-most
returns-then-key-most c = c.contains.ensures.value ∙ seen_any _ _ _ c.requires.n_in_bounds

pub returns-else-key-most : goal.returns-else-key-most
returns-else-key-most c = lt-leb _ _ c.if-key-most.false ∙ sym (not_seen _ c.requires.at_most c.if-key-most.false)
