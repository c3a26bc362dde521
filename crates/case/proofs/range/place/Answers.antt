-- `case::range::place` meets its contract: each place of the code's table is that of the name.
use Prim.Native.Nat.{◌<◌}
use native.Mathlib.Omega.{arith}
use lib.ListN.{length}
use Rattle.case.specs.{Columns.{former_columns, former_name_count_lem}, Parts.{form_of}}
use Rattle.case.proofs.{Places.{former_places, former_place, present_place}}
use Rattle.case.proofs.range.place.Goals as goal
use Rattle.case.proofs.range.place.Goals.{In-Former}

-- the index of a name of the former form
former_index : (c : In-Former) → c.args.k < length former_columns
unfolding form_of
former_index c = rw c.in-Former.is at c.requires

pub offset_bounds-k : goal.offset_bounds-k
offset_bounds-k c = omega (arith, former_index (goal.at.offset_bounds-k c).In-Former, former_name_count_lem)

pub bounds-k : goal.bounds-k
bounds-k c = omega (arith, former_index (goal.at.bounds-k c).In-Former, former_name_count_lem)

pub returns-in-Present : goal.returns-in-Present
unfolding form_of
returns-in-Present c = rw c.in-Present.is (present_place _ (rw c.in-Present.is at c.requires))

pub returns-in-Former : goal.returns-in-Former
unfolding former_places
returns-in-Former c = rw c.in-Former.is (former_place _ (former_index (goal.at.returns-in-Former c).In-Former))
