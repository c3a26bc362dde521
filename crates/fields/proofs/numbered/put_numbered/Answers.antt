-- `put_numbered` writes the word, then a comma and a number for each, then the byte 10: proofs/Refusals.antt.
use Prim.Native.Nat.{ℕ, ◌+◌}
use mathlib.Core.{Path.{◌≡◌, refl}, List.{List, [], ◌∷◌, ◌++◌}}
use native.Mathlib.Omega.{arith}
use lib.ListN.{get_or}
use Rattle.writing.specs.Decimal.{decimal}
use Rattle.writing.proofs.Filling.{Filling, filling_start, filling_room, filling_rest, filling_end, text_room_lem, text_step, byte_room}
use Rattle.writing.proofs.Filling.{byte_step}
use Rattle.fields.specs.Refusal.{numbered}
use Rattle.fields.proofs.Refusals.{numbers_from, numbered_parts, number_next, numbers_end, numbered_most}
use Rattle.fields.proofs.numbered.put_numbered.Goals as goal
use Rattle.fields.proofs.numbered.put_numbered.Goals.{After-loop-n, After-put_bytes-p, In-loop-n, Start}

-- ---- the word

module _ (s : Start) where
  abbrev line : List ℕ
  line = numbered s.args.word.now s.args.numbers.now

  abbrev rest : List ℕ
  rest = numbers_from s.args.numbers.now 0

  line_is : line ≡ s.args.word.now ++ rest
  line_is = numbered_parts s.args.word.now s.args.numbers.now

  whole : Filling s.args.buf.now 0 line s.args.buf.now 0 line
  whole = filling_start _ _ _ (omega (arith, numbered_most s.args.word.now s.args.numbers.now, s.requires))

pub put_bytes-p-requires : goal.put_bytes-p-requires
put_bytes-p-requires c =
    text_room_lem (whole (goal.at.put_bytes-p-requires c).Start) c.args.word.now (rest (goal.at.put_bytes-p-requires c).Start) (line_is (goal.at.put_bytes-p-requires c).Start)

worded : (k : After-put_bytes-p)
    → Filling k.args.buf.now 0 (line (goal.at.After-put_bytes-p k).Start) k.put_bytes-p.new.buf k.put_bytes-p.result (rest (goal.at.After-put_bytes-p k).Start)
worded k =
    text_step (whole (goal.at.After-put_bytes-p k).Start) k.args.word.now (rest (goal.at.After-put_bytes-p k).Start) (line_is (goal.at.After-put_bytes-p k).Start) k.put_bytes-p.ensures

pub loop-n-init : goal.loop-n-init
loop-n-init c = filling_start _ _ _ (filling_room (worded (goal.at.loop-n-init c).After-put_bytes-p))

-- ---- a comma and a number

module _ (c : In-loop-n) where
  abbrev start : Start
  start = (goal.at.In-loop-n c).Start

  abbrev next_number : List ℕ
  next_number = 44 ∷ decimal (get_or start.args.numbers.now c.loop-n.n-index 0)

  abbrev next_rest : List ℕ
  next_rest = numbers_from start.args.numbers.now (c.loop-n.n-index + 1)

  next_is : numbers_from start.args.numbers.now c.loop-n.n-index ≡ next_number ++ next_rest
  next_is = number_next start.args.numbers.now c.loop-n.n-index c.loop-n-test.true

pub put_next-p-requires : goal.put_next-p-requires
put_next-p-requires c =
    omega (arith, text_room_lem c.loop-n.invariant (next_number (goal.at.put_next-p-requires c).In-loop-n) (next_rest (goal.at.put_next-p-requires c).In-loop-n) (next_is (goal.at.put_next-p-requires c).In-loop-n))

pub loop-n-preserved : goal.loop-n-preserved
loop-n-preserved c =
    text_step c.loop-n.invariant (next_number (goal.at.loop-n-preserved c).In-loop-n) (next_rest (goal.at.loop-n-preserved c).In-loop-n) (next_is (goal.at.loop-n-preserved c).In-loop-n) c.put_next-p.ensures

-- ---- the byte 10

last_is : (c : After-loop-n)
    → numbers_from c.args.numbers.now c.loop-n.n-index ≡ 10 ∷ []
last_is c = numbers_end _ _ (omega arith)

pub bounds-buf-p : goal.bounds-buf-p
bounds-buf-p c = byte_room c.loop-n.invariant 10 [] (last_is (goal.at.bounds-buf-p c).After-loop-n)

pub overflow_add-result : goal.overflow_add-result
overflow_add-result c = omega (arith, bounds-buf-p c, c.loop-n.invariant.size)

pub returns : goal.returns
returns c =
    filling_rest (worded (goal.at.returns c).After-put_bytes-p)
    (filling_end (byte_step c.loop-n.invariant 10 [] (last_is (goal.at.returns c).After-loop-n)) refl)
