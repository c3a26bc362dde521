-- `text::find` meets its contract: the search of proofs/Searching.antt.
use Rattle.std.proofs.Common.{◌≡◌, ◌+◌, ◌==◌, sym, ap, ◌∙◌, rules, arith}
use borrow.Author.Tests.{tests}
use Rattle.std.proofs.lemmas.{Iterator.{YieldsList-from_slice}, Iterator.Search.{position_from_yields_List}}
use Rattle.text.specs.Text.{index_of}
use Rattle.text.proofs.{FieldTurns.{part_end}, Searching.{index_within, index_position, place_or_length}}
use Rattle.text.proofs.find.Goals as goal
use Rattle.text.proofs.find.Goals.{After-unwrap_or}

-- the first b after the blocks that are passed is the first of all
found : (c : After-unwrap_or) → c.pass_blocks-i.result + c.unwrap_or.result ≡ index_of c.args.b c.args.s.now
found c =
    let first = position_from_yields_List (λ x. x == c.args.b) _ _ _ c.position.ensures.ran
    (YieldsList-from_slice _ c.iter.ensures.rest) (λ x b q k. search (rules, tests)) in
    ap (λ n. c.pass_blocks-i.result + n)
    (c.unwrap_or.ensures ∙ place_or_length _ _ first ∙ sym (index_position _ _) ∙ ap (index_of c.args.b) (part_end c.args.s.now _))
    ∙ sym c.pass_blocks-i.ensures.passed

pub overflow_add-result : goal.overflow_add-result
overflow_add-result c = omega (arith, found (goal.at.overflow_add-result c).After-unwrap_or, index_within c.args.b c.args.s.now)

pub returns : goal.returns
returns c = found (goal.at.returns c).After-unwrap_or
