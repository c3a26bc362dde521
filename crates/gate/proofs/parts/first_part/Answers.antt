-- `gate::parts::first_part`: the byte is found within the text or at its end, and what is after it is all but the first byte of what is left.
use Rattle.std.proofs.Common.{ap, ◌+◌, ◌∙◌, arith, drop}
use Rattle.std.proofs.lemmas.List.{drop-drop, length-drop, take_all}
use Rattle.text.proofs.Searching.{index_within}
use Rattle.gate.proofs.parts.first_part.Goals as goal

pub split_at-requires : goal.split_at-requires
split_at-requires c = omega (arith, c.find.ensures, index_within c.args.b c.args.s.now)

pub returns-in-len1-up-clause-rest : goal.returns-in-len1-up-clause-rest
returns-in-len1-up-clause-rest c =
    let s = c.args.s.now in
    let rest = c.split_at.result.1.now in
    take_all _ _ (omega (arith, length-drop 1 rest))
    ∙ ap (drop 1) c.split_at.ensures.back
    ∙ drop-drop 1 c.find.result s
    ∙ ap (λ i. drop (i + 1) s) c.find.ensures
