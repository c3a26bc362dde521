-- `judgement::pass::store_line` meets its contract: the line's values are a part of the store.
use Prim.Native.Nat.{ℕ, ◌+◌, ◌*◌, ◌-◌, ◌≤◌}
use mathlib.Core.{Path.{◌∙◌}, List.{List}}
use native.Mathlib.Omega.{arith}
use borrow.Rule.Slice.PartMut.{put_mid, mid_len}
use lib.ListN.{length}
use Rattle.tables.proofs.Writing.{put_written_as}
use Rattle.case.specs.Parts.{form_of}
use Rattle.line_finding.specs.Parts.{keys_of}
use Rattle.judgement.specs.Read.{LineStored}
use Rattle.judgement.proofs.pass.store_line.Goals as goal
use Rattle.judgement.proofs.pass.store_line.Goals.{After-check_line, After-slice_known-1, Start}

-- there is room for as many numbers as there are columns
room : (c : After-slice_known-1) → length c.args.at.now * c.args.n + length c.args.at.now ≤ length c.args.values.now
room c = rw c.requires.placed.count c.requires.form_in_bounds

pub overflow_mul-a : goal.overflow_mul-a
overflow_mul-a c = omega (arith, room (goal.at.overflow_mul-a c).After-slice_known-1)

pub overflow_add-b : goal.overflow_add-b
overflow_add-b c = omega (arith, room (goal.at.overflow_add-b c).After-slice_known-1)

pub offset_bounds-values-a : goal.offset_bounds-values-a
offset_bounds-values-a c = omega (arith, room (goal.at.offset_bounds-values-a c).After-slice_known-1)

pub slice_bounds-check_line-end : goal.slice_bounds-check_line-end
slice_bounds-check_line-end c = room (goal.at.slice_bounds-check_line-end c).After-slice_known-1

pub check_line-requires : goal.check_line-requires
check_line-requires c =
    let p = c.requires in
    record { placed = p.placed; ordered = p.ordered; n_in_bounds = p.n_in_bounds; at_most = p.at_most; row_len = mid_len _ _ c.args.values.now (room (goal.at.check_line-requires c).After-slice_known-1) ∙ omega (arith, p.placed.count) }

abbrev row : After-check_line → List ℕ
row v = v.check_line.new.row

-- the line's values in their place
stored : (v : After-check_line)
    → LineStored (form_of v.args.form) v.args.at.now (keys_of v.args.keys.now v.args.n)
    v.args.line.now v.args.n v.args.values.now
    (put_mid (length v.args.at.now * v.args.n) (length v.args.at.now * v.args.n + length v.args.at.now - length v.args.at.now * v.args.n) v.args.values.now (row v))
    v.check_line.result
stored v =
    record {
      row = row v;
      checks = v.check_line.ensures;
      written = put_written_as _ _ _ _ v.requires.placed.count (rw v.requires.placed.count v.requires.form_in_bounds) v.check_line.ensures.count;
    }

pub shape_of-values : goal.shape_of-values
shape_of-values c = (stored (goal.at.shape_of-values c).After-check_line).written.size

pub returns : goal.returns
returns c = stored (goal.at.returns c).After-check_line
