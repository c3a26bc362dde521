-- `source` reads the table of a form.
use Prim.Native.Nat.{◌<◌}
use native.Mathlib.Omega.{arith}
use lib.ListN.{length}
use Rattle.case.specs.{Columns.{columns, former_columns, name_count_lem, former_name_count_lem}, Parts.{form_of}}
use Rattle.carried_values.specs.Parts.{places_in}
use Rattle.carried_values.proofs.values.source.Goals as goal
use Rattle.carried_values.proofs.values.source.Goals.{In-Present, In-Former}

-- the index of a name of either form
present_index : (c : In-Present) → c.args.k < length columns
unfolding form_of
present_index c = rw c.in-Present.is at c.requires

former_index : (c : In-Former) → c.args.k < length former_columns
unfolding form_of
former_index c = rw c.in-Former.is at c.requires

pub offset_bounds-k : goal.offset_bounds-k
offset_bounds-k c = omega (arith, present_index (goal.at.offset_bounds-k c).In-Present, name_count_lem)

pub bounds-k : goal.bounds-k
bounds-k c = omega (arith, present_index (goal.at.bounds-k c).In-Present, name_count_lem)

pub offset_bounds-k-in-Former : goal.offset_bounds-k-in-Former
offset_bounds-k-in-Former c = omega (arith, former_index (goal.at.offset_bounds-k-in-Former c).In-Former, former_name_count_lem)

pub bounds-k-in-Former : goal.bounds-k-in-Former
bounds-k-in-Former c = omega (arith, former_index (goal.at.bounds-k-in-Former c).In-Former, former_name_count_lem)

pub returns-in-Present : goal.returns-in-Present
unfolding places_in
returns-in-Present c = rw c.in-Present.is

pub returns-in-Former : goal.returns-in-Former
unfolding places_in
returns-in-Former c = rw c.in-Former.is
