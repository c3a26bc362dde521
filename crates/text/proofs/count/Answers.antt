-- `text::count` meets its contract: the count by blocks of proofs/Counts.antt.
use Rattle.std.proofs.Common.{◌≡◌, ◌/◌, ◌+◌, ◌≤◌, length, ap, map, rules, arith}
use Rattle.std.specs.List.{sum}
use Rattle.std.proofs.lemmas.{Iterator.{YieldsList-from_slice, YieldsList-from_map}, Iterator.Consumers.{sum_from_yields_List, fits_from_yields_list}}
use Rattle.text.specs.Parts.{count_of}
use Rattle.text.proofs.Counts.{count_within, blocks_count, blocks_most}
use Rattle.text.proofs.count.Goals as goal
use Rattle.text.proofs.count.Goals.{After-as_chunks, After-count_block}

few : (c : After-as_chunks) → sum (map (count_of c.args.b) c.as_chunks.result.0.now) ≤ length c.args.s.now
few c = rw c.as_chunks.ensures.front (blocks_most c.args.b 128 (length c.args.s.now / 128) c.args.s.now (omega arith))

pub sum-whole-requires-clause-fits : goal.sum-whole-requires-clause-fits
sum-whole-requires-clause-fits c =
    fits_from_yields_list _ _
    (YieldsList-from_map _ (count_of c.args.b) (YieldsList-from_slice c.as_chunks.result.0.now cc) c.map.ensures.closure (λ x r q k. search rules))
    (omega (arith, few (goal.at.sum-whole-requires-clause-fits c).After-as_chunks))

-- those in the blocks and those in the rest are all
counted : (c : After-count_block) → c.sum-whole.result + c.count_block.result ≡ count_of c.args.b c.args.s.now
counted c =
    let whole = sum_from_yields_List _ _ c.sum-whole.ensures.ran
    (YieldsList-from_map _ (count_of c.args.b) (YieldsList-from_slice c.as_chunks.result.0.now cc) c.map.ensures.closure (λ x r q k. search rules)) in
    omega (
      arith,
      whole,
      ap (λ t. sum (map (count_of c.args.b) t)) c.as_chunks.ensures.front,
      c.count_block.ensures,
      ap (count_of c.args.b) c.as_chunks.ensures.back,
      blocks_count c.args.b 128 (length c.args.s.now / 128) c.args.s.now (omega arith),
    )

pub overflow_add-result : goal.overflow_add-result
overflow_add-result c = omega (arith, counted (goal.at.overflow_add-result c).After-count_block, count_within c.args.b c.args.s.now)

pub returns : goal.returns
returns c = counted (goal.at.returns c).After-count_block
