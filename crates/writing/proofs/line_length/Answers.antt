-- `line_length` adds up the digits of the numbers and the byte after each: proofs/Line.antt.
use Rattle.std.proofs.Common.{◌+◌, ◌∙◌, rules, arith}
use Rattle.std.proofs.lemmas.{Iterator.{YieldsList-from_slice, YieldsList-from_map}, Iterator.Consumers.{sum_from_yields_List, fits_from_yields_list}}
use Rattle.writing.specs.Decimal.{digit_count}
use Rattle.writing.proofs.Line.{line_count}
use Rattle.writing.proofs.line_length.Goals as goal

pub sum-requires-clause-fits : goal.sum-requires-clause-fits
sum-requires-clause-fits c =
    fits_from_yields_list _ _
    (YieldsList-from_map _ (λ n. digit_count n + 1) (YieldsList-from_slice c.args.v.now cc) c.map.ensures.closure (λ x r q k. search rules))
    (omega (arith, line_count c.args.v.now c.requires.v_nonzero, c.requires.v_len_bound))

pub returns : goal.returns
returns c =
    sum_from_yields_List _ _ c.sum.ensures.ran
    (YieldsList-from_map _ (λ n. digit_count n + 1) (YieldsList-from_slice c.args.v.now cc) c.map.ensures.closure (λ x r q k. search rules))
    ∙ line_count c.args.v.now c.requires.v_nonzero
