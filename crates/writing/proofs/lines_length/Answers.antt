-- `lines_length` adds up the lengths of the lines: proofs/LinesWriting.antt.
use Rattle.std.proofs.Common.{◌≡◌, ◌+◌, ◌∷◌, ◌++◌, [], length, length-append, ap, ◌∙◌, arith}
use Rattle.std.specs.Slice.Iter.{chunks_exact_rest, chunks_exact_size}
use Rattle.writing.specs.Text.{value_line}
use Rattle.writing.proofs.LinesWriting.{count_start, count_step, count_most, count_end}
use Rattle.writing.proofs.TableRest.{rest_start, rest_step, line_next, line_none}
use Rattle.writing.proofs.lines_length.Goals as goal

pub loop-v-init : goal.loop-v-init
loop-v-init c =
    let same = c.into_iter-v-iterator.ensures.into_iter_gives in
    record {
      width = ap chunks_exact_size same ∙ c.chunks_exact-v-items.ensures.size;
      table = rw (ap chunks_exact_rest same ∙ c.chunks_exact-v-items.ensures.rest) (rest_start _ _ _ c.requires.k_in_bounds);
      counted = count_start _;
    }

pub line_length-n-requires : goal.line_length-n-requires
line_length-n-requires c =
    let a = c.loop-v.invariant in
    let next = c.in-Some.ensures.steps.1 in
    let size = next.1 ∙ a.width in
    record {
      v_nonzero = omega (arith, size, c.requires.k_nonzero);
      v_len_bound = omega (arith, count_most a.counted (line_next a.table c.requires.k_nonzero _ _ next.0 size value_line), c.requires.table_len_bound);
    }

pub overflow_add-n : goal.overflow_add-n
overflow_add-n c =
    let a = c.loop-v.invariant in
    let next = c.in-Some.ensures.steps.1 in
    omega (
      arith,
      count_most a.counted (line_next a.table c.requires.k_nonzero _ _ next.0 (next.1 ∙ a.width) value_line),
      c.line_length-n.ensures,
      c.requires.table_len_bound,
    )

pub loop-v-preserved : goal.loop-v-preserved
loop-v-preserved c =
    let a = c.loop-v.invariant in
    let steps = c.in-Some.ensures.steps in
    let size = steps.1.1 ∙ a.width in
    let more : length (c.loop-v.yielded ++ c.in-Some.v ∷ []) ≡ length c.loop-v.yielded + 1 = length-append c.loop-v.yielded (c.in-Some.v ∷ []) in
    rw more
    (record {
      width = steps.0 ∙ a.width;
      table = rest_step a.table c.requires.k_nonzero _ _ steps.1.0 size;
      counted = count_step a.counted (line_next a.table c.requires.k_nonzero _ _ steps.1.0 size value_line) c.line_length-n.ensures;
    })

pub returns : goal.returns
returns c =
    let a = c.loop-v.invariant in
    count_end a.counted (line_none a.table (omega (arith, a.width, c.in-None.ensures.steps.1.0)) value_line)
