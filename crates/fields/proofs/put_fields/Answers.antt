-- `put_fields` writes the fields of a line one after the other: proofs/LineFields.antt.
use Prim.Native.Nat.{ℕ, ◌+◌}
use mathlib.Core.{Path.{◌≡◌, refl}, List.{List, [], ◌∷◌, ◌++◌}}
use native.Mathlib.Omega.{arith}
use borrow.Author.Rules.{rules}
use lib.{IntN.{pos}, ListN.{get_or}}
use mir.{Syntax.{w64}, Val.{SFits}, Facts.{to_z-of_z}}
use Rattle.writing.proofs.Filling.{Filling, filling_start, filling_room, filling_end, filling_rest, byte_room, byte_step, text_room_lem}
use Rattle.writing.proofs.Filling.{text_step, field_room, field_step}
use Rattle.fields.specs.Fields.{field, line_of}
use Rattle.fields.proofs.{LineFields.{line_from, line_first, line_more, line_last}}
use Rattle.fields.proofs.put_fields.Goals as goal
use Rattle.fields.proofs.put_fields.Goals.{After-loop-i, After-put_field-arg-2-1, After-put_field-arg-in-loop-i-2-1, After-put_field-p, In-loop-i, Start}

-- ---- the first field

module _ (s : Start) where
  abbrev first_field : List ℕ
  first_field = field s.args.word 0 (get_or s.args.row.now 0 (pos 0))

  abbrev first_rest : List ℕ
  first_rest = line_from s.args.word s.args.row.now 1

  abbrev line : List ℕ
  line = line_of s.args.word s.args.row.now

  whole : Filling s.args.buf.now s.args.at line s.args.buf.now s.args.at line
  whole = filling_start _ _ _ s.requires.row_in_bounds

  first_is : line_of s.args.word s.args.row.now
      ≡ first_field ++ first_rest
  first_is = line_first s.args.word s.args.row.now s.requires.row_nonzero

first_fits : (c : After-put_field-arg-2-1) → SFits w64 (get_or c.args.row.now 0 (pos 0))
first_fits c = search rules

pub put_field-p-requires : goal.put_field-p-requires
put_field-p-requires c =
    rw (to_z-of_z (first_fits (goal.at.put_field-p-requires c).After-put_field-arg-2-1)) (text_room_lem (whole (goal.at.put_field-p-requires c).Start) (first_field (goal.at.put_field-p-requires c).Start) (first_rest (goal.at.put_field-p-requires c).Start) (first_is (goal.at.put_field-p-requires c).Start))

first : (c : After-put_field-p)
    → Filling c.args.buf.now c.args.at (line_of c.args.word c.args.row.now) c.put_field-p.new.buf c.put_field-p.result
    (line_from c.args.word c.args.row.now 1)
first c =
    text_step (whole (goal.at.After-put_field-p c).Start) (first_field (goal.at.After-put_field-p c).Start) (first_rest (goal.at.After-put_field-p c).Start) (first_is (goal.at.After-put_field-p c).Start) (rw (to_z-of_z (first_fits (goal.at.After-put_field-p c).After-put_field-arg-2-1)) at c.put_field-p.ensures)

pub loop-i-init : goal.loop-i-init
loop-i-init c = filling_start _ _ _ (filling_room (first (goal.at.loop-i-init c).After-put_field-p))

-- ---- a comma and a field

module _ (c : In-loop-i) where
  abbrev start : Start
  start = (goal.at.In-loop-i c).Start

  abbrev next_field : List ℕ
  next_field = field start.args.word c.loop-i.i (get_or start.args.row.now c.loop-i.i (pos 0))

  abbrev next_rest : List ℕ
  next_rest = line_from start.args.word start.args.row.now (c.loop-i.i + 1)

  next_is : line_from start.args.word start.args.row.now c.loop-i.i ≡ 44 ∷ (next_field ++ next_rest)
  next_is = line_more start.args.word start.args.row.now c.loop-i.i c.loop-i-test.true

pub bounds-buf-p : goal.bounds-buf-p
bounds-buf-p c = byte_room c.loop-i.invariant 44 _ (next_is (goal.at.bounds-buf-p c).In-loop-i)

pub overflow_add-p : goal.overflow_add-p
overflow_add-p c = omega (arith, bounds-buf-p (goal.at.overflow_add-p c).In-loop-i, c.loop-i.invariant.size)

next_fits : (c : After-put_field-arg-in-loop-i-2-1)
    → SFits w64 (get_or (start (goal.at.After-put_field-arg-in-loop-i-2-1 c).In-loop-i).args.row.now c.loop-i.i (pos 0))
next_fits c = search rules

pub put_field-p-requires-in-loop-i : goal.put_field-p-requires-in-loop-i
put_field-p-requires-in-loop-i c =
    rw (to_z-of_z (next_fits (goal.at.put_field-p-requires-in-loop-i c).After-put_field-arg-in-loop-i-2-1)) (field_room c.loop-i.invariant 44 (next_field (goal.at.put_field-p-requires-in-loop-i c).In-loop-i) (next_rest (goal.at.put_field-p-requires-in-loop-i c).In-loop-i) (next_is (goal.at.put_field-p-requires-in-loop-i c).In-loop-i))

pub loop-i-preserved : goal.loop-i-preserved
loop-i-preserved c =
    field_step c.loop-i.invariant 44 (next_field (goal.at.loop-i-preserved c).In-loop-i) (next_rest (goal.at.loop-i-preserved c).In-loop-i) (next_is (goal.at.loop-i-preserved c).In-loop-i)
    (rw (to_z-of_z (next_fits (goal.at.loop-i-preserved c).After-put_field-arg-in-loop-i-2-1)) at c.put_field-p-in-loop-i.ensures)

-- ---- the byte 10

module _ (c : After-loop-i) where
  last_is : line_from c.args.word c.args.row.now c.loop-i.i ≡ 10 ∷ []
  last_is = line_last _ _ _ (omega arith)

pub bounds-buf-p-2 : goal.bounds-buf-p-2
bounds-buf-p-2 c = byte_room c.loop-i.invariant 10 [] (last_is (goal.at.bounds-buf-p-2 c).After-loop-i)

pub overflow_add-result : goal.overflow_add-result
overflow_add-result c = omega (arith, bounds-buf-p-2 c, c.loop-i.invariant.size)

pub returns : goal.returns
returns c = filling_rest (first (goal.at.returns c).After-put_field-p) (filling_end (byte_step c.loop-i.invariant 10 [] (last_is (goal.at.returns c).After-loop-i)) refl)
