-- `text::pass_blocks` meets its contract: each block before the one that is found is without the byte.
use Rattle.std.proofs.Common.{◌==◌, ◌∙◌, rules, arith}
use borrow.Author.Tests.{tests}
use Rattle.std.specs.List.{list_any}
use Rattle.std.proofs.lemmas.{Iterator.{YieldsList-from_slice}, Iterator.Search.{position_from_yields_List}}
use Rattle.text.proofs.Searching.{place_or_length, blocks_passed}
use Rattle.text.proofs.pass_blocks.Goals as goal

pub returns : goal.returns
returns c =
    let first = position_from_yields_List (list_any (λ x. x == c.args.b)) _ _ _ c.position-first.ensures.ran
    (YieldsList-from_slice c.as_chunks.result.0.now cc) (λ x b q k. search (rules, tests)) in
    rw (c.unwrap_or.ensures ∙ place_or_length _ _ first, c.as_chunks.ensures.front)
    (blocks_passed c.args.b 16 _ c.args.s.now (omega arith))
