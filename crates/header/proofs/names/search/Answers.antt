-- `header::names::search` meets its contract: the first index whose name is the field.
use Rattle.std.proofs.Common.{refl, rules, arith}
use borrow.Author.Tests.{tests}
use lib.Dec.{eqb}
use Rattle.std.specs.Cmp.Lexicographic.{pointwise}
use Rattle.std.proofs.lemmas.{Iterator.{YieldsList-from_range}, Iterator.Search.{position_from_yields_List}}
use Rattle.case.specs.Parts.{form_of}
use Rattle.header.specs.Parts.{name_at}
use Rattle.header.proofs.NameIndices.{name_searched}
use Rattle.header.proofs.names.search.Goals as goal

pub returns : goal.returns
returns c =
    let found = position_from_yields_List (λ k. pointwise eqb c.args.s.now (name_at (form_of c.args.form) k)) _ _ _ c.position.ensures.ran
    (YieldsList-from_range 0 c.name_count.result c.name_count.result refl (omega arith)) (λ x b q k. search (rules, tests)) in
    name_searched _ _ c.name_count.ensures found
