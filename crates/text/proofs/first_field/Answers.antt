-- `text::first_field` meets its contract: a value that is read in one pass, or else where the first comma is, and what stands before it.
use Rattle.text.proofs.{FieldTurns.{part_length}}
use Rattle.text.proofs.first_field.Goals as goal

pub returns-in-Some : goal.returns-in-Some
returns-in-Some c = record { ends = c.in-Some.ensures.ends; held = c.in-Some.ensures.held }

pub slice_bounds-value-end : goal.slice_bounds-value-end
slice_bounds-value-end c = part_length 44 _ _ c.find-end.ensures
