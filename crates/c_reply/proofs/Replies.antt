-- What a reply leaves in the array, under another name of the reply.
use Prim.Native.Nat.{ℕ}
use mathlib.Core.{Path.{◌≡◌, refl, ap, ◌∙◌}, Bool.{Bool, true, false, cond}, List.{List, ◌++◌}}
use native.Mathlib.Omega.{arith}
use lib.{Dec.{ltb}, IntN.{ℤ}, ListN.{length, drop, length-append, length-drop}}
use borrow.Author.Tests.{ltb-false}
use Rattle.c_reply.specs.Reply.{Reply, Numbers, Refused, reply_answer, numbers_after, Replied}
use Rattle.std.specs.Prelude.{Result, Err}
use Rattle.refusal.specs.declared.Refused as refusal

pub replied_as : {p q : Reply} {before after : List ℤ} {a : Result ℕ refusal.Refused} → p ≡ q → Replied p before after a → Replied q before after a
replied_as e r = rw e at r

pub refused_reply : {q : Reply} {before : List ℤ} {why : refusal.Refused} → Refused why.0 why.1 why.2 ≡ q → Replied q before before (Err why)
unfolding reply_answer numbers_after
refused_reply e = replied_as e (record { answer_is = refl; numbers_are = refl })

-- the array keeps its length
after_length : (before : List ℤ) (reply : Reply) → length (numbers_after before reply) ≡ length before
unfolding numbers_after
after_length before (Refused n l c) = refl
after_length before (Numbers count zs) = go (ltb (length before) (length zs)) refl
  where
    go : (b : Bool) → ltb (length before) (length zs) ≡ b → length (cond b before (zs ++ drop (length zs) before)) ≡ length before
    go true e = refl
    go false e = rw (length-append, length-drop (length zs) before) (omega (arith, ltb-false (length before) (length zs) e))

pub replied_length : {reply : Reply} {before after : List ℤ} {a : Result ℕ refusal.Refused} → Replied reply before after a → length after ≡ length before
replied_length {reply} {before} r = ap length r.numbers_are ∙ after_length before reply
