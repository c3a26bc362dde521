-- `put_rows` writes line after line.
use Rattle.std.proofs.Common.{◌≡◌, ◌+◌, ◌<◌, ◌∷◌, ◌++◌, [], length, length-append, ap, ◌∙◌, arith}
use Rattle.std.specs.Slice.Iter.{chunks_exact_rest, chunks_exact_size}
use Rattle.writing.proofs.LinesWriting.{lines_start, line_room, line_step, lines_end}
use Rattle.writing.proofs.TableRest.{rest_start, rest_step, line_next, line_none}
use Rattle.row_text.specs.Shown.{shown_line}
use Rattle.row_text.proofs.put_rows.Goals as goal

pub loop-row-init : goal.loop-row-init
loop-row-init c =
    let same = c.into_iter-row-iterator.ensures.into_iter_gives in
    record {
      width = ap chunks_exact_size same ∙ c.chunks_exact-row-items.ensures.size;
      table = rw (ap chunks_exact_rest same ∙ c.chunks_exact-row-items.ensures.rest) (rest_start _ _ _ c.requires.width_in_bounds);
      lines = lines_start _ _ _ c.requires.rows_in_bounds;
    }

pub put_row-p-requires : goal.put_row-p-requires
put_row-p-requires c =
    let a = c.loop-row.invariant in
    let next = c.in-Some.ensures.steps.1 in
    let size = next.1 ∙ a.width in
    let some : 0 < c.args.width = omega (arith, c.requires.le_width.0) in
    record {
      in_bounds = omega (arith, size, c.requires.le_width.0);
      row_in_bounds = line_room a.lines (line_next a.table some _ _ next.0 size (shown_line c.args.what));
    }

pub loop-row-preserved : goal.loop-row-preserved
loop-row-preserved c =
    let a = c.loop-row.invariant in
    let steps = c.in-Some.ensures.steps in
    let size = steps.1.1 ∙ a.width in
    let some : 0 < c.args.width = omega (arith, c.requires.le_width.0) in
    let more : length (c.loop-row.yielded ++ c.in-Some.row ∷ []) ≡ length c.loop-row.yielded + 1 = length-append c.loop-row.yielded (c.in-Some.row ∷ []) in
    rw more
    (record {
      width = steps.0 ∙ a.width;
      table = rest_step a.table some _ _ steps.1.0 size;
      lines = line_step a.lines (line_next a.table some _ _ steps.1.0 size (shown_line c.args.what)) c.put_row-p.ensures;
    })

pub returns : goal.returns
returns c =
    let a = c.loop-row.invariant in
    lines_end a.lines (line_none a.table (omega (arith, a.width, c.in-None.ensures.steps.1.0)) (shown_line c.args.what))
