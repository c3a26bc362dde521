-- `case::range::all_ranges` is the table of the names' ranges, by computation.
use mathlib.Core.Path.{refl}
use Rattle.case.specs.{Columns.{columns, all_columns}, Parts.{low_of, high_of, other_of, numbers_of}}
use Rattle.case.proofs.range.all_ranges.Goals as goal

pub returns : goal.returns
unfolding columns all_columns low_of high_of other_of numbers_of
returns c = refl
