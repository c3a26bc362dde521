-- `header::names::name_of` meets its contract: no name stands twice, so the expected one may be tried first.
use mathlib.Core.Path.{sym, ap, ◌∙◌}
use lib.Dec.{eqb}
use Rattle.std.specs.Cmp.Lexicographic.{pointwise}
use Rattle.text.proofs.Comparing.{same_is}
use Rattle.header.proofs.NameIndices.{name_found}
use Rattle.header.proofs.names.name_of.Goals as goal

pub returns-then-eq : goal.returns-then-eq
returns-then-eq c =
    name_found _ _ c.requires
    (sym (same_is _ _) ∙ sym (ap (pointwise eqb c.args.s.now) c.name.ensures) ∙ sym c.eq.ensures ∙ c.if-eq.true)
