-- `case::parts::left_of` meets its contract.
use mathlib.Core.Logic.{⊎_elim}
use borrow.Author.Tests.{eq-eqb, ne_eqb, le-leb, lt-leb}
use Rattle.case.specs.Check.{left_of}
use Rattle.case.proofs.parts.left_of.Goals as goal

pub returns-then-a-c : goal.returns-then-a-c
unfolding left_of
returns-then-a-c c = ⊎_elim (λ h. rw (eq-eqb _ 0 h)) (λ h. rw (ne_eqb _ 0 h.0, le-leb _ _ h.1)) c.if-a-c.either

pub returns-else-a-c : goal.returns-else-a-c
unfolding left_of
returns-else-a-c c = rw (ne_eqb _ 0 c.if-a-c.false.0, lt-leb _ _ c.if-a-c.false.1)
