-- `put_lines` writes line after line: proofs/LinesWriting.antt, with the lines of a table of proofs/TableRest.antt.
use Rattle.std.proofs.Common.{◌≡◌, length, map}
use Rattle.std.specs.Slice.Iter.{chunks_exact_rest, chunks_exact_size}
use Rattle.tables.specs.Parts.{parts_of}
use Rattle.writing.specs.Text.{value_line}
use Rattle.writing.proofs.LinesWriting.{LinesAt}
use Rattle.writing.proofs.TableRest.{TableRest}
use Rattle.writing.proofs.put_lines.Given as goal

abbrev pub invariant-loop-v : goal.invariant-loop-v
invariant-loop-v l = record {
  width : chunks_exact_size l.v-iterator ≡ l.k;
  table : TableRest l.k l.m l.table (chunks_exact_rest l.v-iterator) (length l.yielded);
  lines : LinesAt l.initial.buf l.at (map value_line (parts_of l.k l.m l.table)) l.buf l.p (length l.yielded);
}
