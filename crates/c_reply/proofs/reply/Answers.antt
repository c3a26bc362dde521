-- `reply` puts the numbers where there is room for them.
use Prim.Native.Nat.{◌≤◌}
use mathlib.Core.{Path.{◌≡◌, ap, ◌∙◌}, List.{List, ◌++◌}}
use native.Mathlib.Omega.{arith}
use borrow.Author.{Tests.{lt-ltb, le-ltb}}
use lib.{IntN.{ℤ}, ListN.{length, drop, length-append, length-drop}}
use Rattle.c_reply.specs.Reply.{reply_answer, numbers_after}
use Rattle.c_reply.proofs.reply.Goals as goal

long : (zs before : List ℤ) → length zs ≤ length before → length (zs ++ drop (length zs) before) ≡ length before
long zs before h = rw (length-append, length-drop (length zs) before) (omega arith)

pub returns-then-numbers-zs : goal.returns-then-numbers-zs
unfolding reply_answer numbers_after
returns-then-numbers-zs c = let t = lt-ltb _ _ c.if-numbers-zs.true in record { answer_is = rw t; numbers_are = rw t }

pub shape_of-numbers : goal.shape_of-numbers
shape_of-numbers c =
    ap length c.put_first.ensures ∙ long c.args.zs.now c.args.numbers.now c.if-numbers-zs.false

pub returns : goal.returns
unfolding reply_answer numbers_after
returns c =
    let t = le-ltb _ _ c.if-numbers-zs.false in
    record { answer_is = rw t; numbers_are = rw t c.put_first.ensures }
