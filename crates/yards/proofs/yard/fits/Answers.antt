-- `fits` follows the three tests.
use Rattle.text.specs.Text.{same}
use Rattle.case.specs.{Columns.{columns, in_range, name_index}, Parts.{range_at}}
use Rattle.yards.specs.Yards.{fits, spacing, space_range}
use borrow.Author.{Tests.{eq-eqb, ne_eqb, le-leb, lt-leb}}
use Rattle.yards.proofs.yard.fits.Goals as goal

pub returns-then-side-gaps-ne0 : goal.returns-then-side-gaps-ne0
unfolding fits
returns-then-side-gaps-ne0 c = rw (ne_eqb _ _ c.if-side-gaps-ne0.true)

pub returns-then-space-lt-LEAST_SPACE : goal.returns-then-space-lt-LEAST_SPACE
unfolding fits spacing space_range range_at columns in_range name_index same
returns-then-space-lt-LEAST_SPACE c = rw (eq-eqb _ _ c.if-side-gaps-ne0.false, lt-leb _ _ c.if-space-lt-LEAST_SPACE.true)

pub returns : goal.returns
unfolding fits spacing space_range range_at columns in_range name_index same
returns c = rw (eq-eqb _ _ c.if-side-gaps-ne0.false, le-leb _ _ c.if-space-lt-LEAST_SPACE.false)
