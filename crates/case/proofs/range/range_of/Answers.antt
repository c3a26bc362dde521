-- `case::range::range_of` reads the table at the place of the name.
use Rattle.case.proofs.RangeNumbers.{table_entry}
use Rattle.case.proofs.range.range_of.Goals as goal

pub returns : goal.returns
returns c = table_entry c.all_ranges.ensures _ c.place.ensures
