-- `put_numbers` puts two numbers a step, each in its own eight bytes.
use Prim.Native.Nat.{◌+◌, ◌*◌, ◌-◌, ◌<◌}
use mathlib.Core.{Path.{refl, sym, ◌∙◌}}
use native.Mathlib.Omega.{arith}
use borrow.Author.Rules.{rules}
use borrow.Rule.Slice.PartMut.{put_mid}
use lib.{IntN.{pos}, ListN.{get_or}}
use mir.{Syntax.{w64}, Val.{SFits}, Facts.{to_z-of_z}}
use Rattle.row.specs.Row.{row_length}
use Rattle.c_bytes.specs.Bytes.{number_bytes}
use Rattle.c_rows.specs.Rows.{row_bytes}
use Rattle.c_rows.proofs.{Putting.{PutTo, put_start, put_next, put_all}}
use Rattle.c_rows.proofs.put_numbers.Goals as goal
use Rattle.c_rows.proofs.put_numbers.Goals.{After-put_number, In-loop-i}

pub loop-i-init : goal.loop-i-init
loop-i-init c = record { put = put_start _ _ c.requires; most = omega arith; even = refl }

pub slice_bounds-put_number-end : goal.slice_bounds-put_number-end
slice_bounds-put_number-end c = omega (arith, c.loop-i.invariant.put.size, c.loop-i.invariant.even)

-- the first of the two
first : (c : After-put_number)
    → let l = c.loop-i in
    PutTo c.args.numbers row_bytes (l.i + 1)
    (put_mid (number_bytes * l.i) (number_bytes * l.i + number_bytes - number_bytes * l.i) l.part c.put_number.new.part)
first c =
    let f : SFits w64 (get_or c.args.numbers c.loop-i.i (pos 0)) = search rules in
    let b = c.put_number.ensures in
    put_next c.loop-i.invariant.put (search rules) (omega arith) f _ _ refl refl (rw (to_z-of_z f) at b)

-- so there is a second
another : (l : In-loop-i) → l.loop-i.i + 1 < row_length
another l = omega (arith, l.loop-i.invariant.even, l.loop-i-test.true)

pub bounds-numbers-i-in-loop-i : goal.bounds-numbers-i-in-loop-i
bounds-numbers-i-in-loop-i c = another (goal.at.bounds-numbers-i-in-loop-i c).In-loop-i

pub slice_bounds-put_number-end-in-loop-i : goal.slice_bounds-put_number-end-in-loop-i
slice_bounds-put_number-end-in-loop-i c =
    omega (arith, (first (goal.at.slice_bounds-put_number-end-in-loop-i c).After-put_number).size, another (goal.at.slice_bounds-put_number-end-in-loop-i c).In-loop-i)

pub loop-i-smaller : goal.loop-i-smaller
loop-i-smaller c = omega arith

pub loop-i-preserved : goal.loop-i-preserved
loop-i-preserved c =
    let h = another (goal.at.loop-i-preserved c).In-loop-i in
    let f : SFits w64 (get_or c.args.numbers (c.loop-i.i + 1) (pos 0)) = search rules in
    let b = c.put_number-in-loop-i.ensures in
    record {
      put =
          put_next (first (goal.at.loop-i-preserved c).After-put_number) (omega arith) (omega arith) f (number_bytes * c.loop-i.i + number_bytes) (c.loop-i.i + 2)
          (omega arith) (omega arith) (rw (to_z-of_z f) at b);
      most = omega arith;
      even = omega (arith, c.loop-i.invariant.even);
    }

pub shape_of-part : goal.shape_of-part
shape_of-part c = c.loop-i.invariant.put.size ∙ sym c.requires

pub returns : goal.returns
returns c =
    let l = c.loop-i in
    put_all l.invariant.put (omega (arith, l.invariant.most)) (omega (arith, l.invariant.most))
