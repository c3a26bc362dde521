-- `line::front_values` meets its contract: the reading of proofs/ValuesReading.antt, where each value is read in one pass.
use Rattle.std.proofs.Common.{◌≤◌, length}
use Rattle.text.specs.Text.{fields_of}
use Rattle.line.specs.Parts.{ValuesAt}
use Rattle.line.proofs.front_values.Given as goal

abbrev pub invariant-loop-count : goal.invariant-loop-count
invariant-loop-count l = record {
  shorter : length l.rest ≤ length l.line;
  put : ValuesAt (length l.fn.row) l.order (fields_of l.line) l.row (fields_of l.rest) l.count;
}
