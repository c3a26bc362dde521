-- `put_lines` writes line after line: proofs/LinesWriting.antt, with the lines of a table of proofs/TableRest.antt.
use Rattle.std.proofs.Common.{◌≡◌, ◌+◌, ◌∷◌, ◌++◌, [], length, length-append, ap, ◌∙◌, arith}
use Rattle.std.specs.Slice.Iter.{chunks_exact_rest, chunks_exact_size}
use Rattle.writing.specs.Text.{value_line}
use Rattle.writing.proofs.LinesWriting.{lines_start, line_room, line_step, lines_end}
use Rattle.writing.proofs.TableRest.{rest_start, rest_step, line_next, line_none}
use Rattle.writing.proofs.put_lines.Goals as goal

pub loop-v-init : goal.loop-v-init
loop-v-init c =
    let same = c.into_iter-v-iterator.ensures.into_iter_gives in
    record {
      width = ap chunks_exact_size same ∙ c.chunks_exact-v-items.ensures.size;
      table = rw (ap chunks_exact_rest same ∙ c.chunks_exact-v-items.ensures.rest) (rest_start _ _ _ c.requires.k_in_bounds);
      lines = lines_start _ _ _ c.requires.table_in_bounds;
    }

pub put_line-p-requires : goal.put_line-p-requires
put_line-p-requires c =
    let a = c.loop-v.invariant in
    let next = c.in-Some.ensures.steps.1 in
    let size = next.1 ∙ a.width in
    record {
      v_nonzero = omega (arith, size, c.requires.k_nonzero);
      v_in_bounds = line_room a.lines (line_next a.table c.requires.k_nonzero _ _ next.0 size value_line);
    }

pub loop-v-preserved : goal.loop-v-preserved
loop-v-preserved c =
    let a = c.loop-v.invariant in
    let steps = c.in-Some.ensures.steps in
    let size = steps.1.1 ∙ a.width in
    let more : length (c.loop-v.yielded ++ c.in-Some.v ∷ []) ≡ length c.loop-v.yielded + 1 = length-append c.loop-v.yielded (c.in-Some.v ∷ []) in
    rw more
    (record {
      width = steps.0 ∙ a.width;
      table = rest_step a.table c.requires.k_nonzero _ _ steps.1.0 size;
      lines = line_step a.lines (line_next a.table c.requires.k_nonzero _ _ steps.1.0 size value_line) c.put_line-p.ensures;
    })

pub returns : goal.returns
returns c =
    let a = c.loop-v.invariant in
    lines_end a.lines (line_none a.table (omega (arith, a.width, c.in-None.ensures.steps.1.0)) value_line)
