-- `text::count_lines` meets its contract: the bytes 10 before the last byte, and one more.
use Rattle.std.proofs.Common.{◌+◌, length, sym, ap, ◌∙◌, arith}
use Rattle.text.specs.Text.{lines_of}
use Rattle.text.proofs.{Counts.{count_within, lines_count, lines_of_none}}
use Rattle.text.proofs.count_lines.Goals as goal
use Rattle.text.proofs.count_lines.Goals.{After-count}

pub returns-in_default : goal.returns-in_default
returns-in_default c = lines_of_none _ c.in_default.ensures.cases

pub overflow_add-result : goal.overflow_add-result
overflow_add-result c =
    omega (arith, c.count.ensures, count_within 10 c.in-Some.before.now, c.in-Some.ensures.cases.1)

pub returns : goal.returns
returns c = ap (λ n. n + 1) c.count.ensures ∙ lines_count _ _ ∙ ap (λ t. length (lines_of t)) (sym c.in-Some.ensures.cases.0)
