-- `header::names::all_names` is the table of names, by computation.
use mathlib.Core.Path.{refl}
use Rattle.case.specs.Columns.{columns, all_columns}
use Rattle.header.specs.Parts.{in_code}
use Rattle.header.proofs.names.all_names.Goals as goal

pub returns : goal.returns
unfolding columns all_columns in_code
returns c = refl
