-- `put_working` puts the ends of the case's working.
use mathlib.Core.Path.{◌≡◌, sym, ap, ◌∙◌}
use native.Mathlib.Omega.{arith}
use lib.ListN.{length}
use borrow.Author.Rules.{rules}
use Rattle.working.{specs.Numbers.{working_numbers}, proofs.Right.{right_working}}
use Rattle.c_line.proofs.{LineParts.{put_whole}}
use Rattle.c_line.proofs.put_working.Goals as goal
use Rattle.c_line.proofs.put_working.Goals.{After-working_numbers-zs}

pub put_first-requires : goal.put_first-requires
put_first-requires c =
    omega (arith, c.requires.part_len)

numbers_count : (n : After-working_numbers-zs) → length n.working_numbers-zs.result ≡ 30
numbers_count n = search rules

pub returns : goal.returns
returns c =
    record {
      is =
          c.put_first.ensures ∙ put_whole _ c.args.part.now (c.requires.part_len ∙ sym (numbers_count (goal.at.returns c).After-working_numbers-zs)) ∙ c.working_numbers-zs.ensures
          ∙ ap working_numbers c.work.ensures;
      right = right_working c.requires.bounds;
    }
