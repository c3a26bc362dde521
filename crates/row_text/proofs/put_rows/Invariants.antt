-- `put_rows` writes line after line.
use Rattle.std.proofs.Common.{◌≡◌, length, map}
use Rattle.std.specs.Slice.Iter.{chunks_exact_rest, chunks_exact_size}
use Rattle.tables.specs.Parts.{parts_of}
use Rattle.writing.proofs.LinesWriting.{LinesAt}
use Rattle.writing.proofs.TableRest.{TableRest}
use Rattle.row_text.specs.Shown.{shown_line}
use Rattle.row_text.proofs.put_rows.Given as goal

abbrev pub invariant-loop-row : goal.invariant-loop-row
invariant-loop-row l = record {
  width : chunks_exact_size l.row-iterator ≡ l.width;
  table : TableRest l.width l.n l.rows (chunks_exact_rest l.row-iterator) (length l.yielded);
  lines : LinesAt l.initial.buf l.at (map (shown_line l.what) (parts_of l.width l.n l.rows)) l.buf l.p (length l.yielded);
}
