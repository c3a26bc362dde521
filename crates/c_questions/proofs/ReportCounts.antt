-- The counts that reports answer have 64 signed bits.
use Prim.Native.Nat.{ℕ, ◌<◌, ◌^◌}
use mathlib.Core.{Bool.{Bool, true, false, cond}, List.{List}}
use native.Mathlib.Omega.{arith}
use lib.{Dec.{ltb}, IntN.{ℤ}, ListN.{length}}
use Rattle.c_tell.specs.Room.{Few}
use Rattle.c_reply.specs.Reply.{soil_reply, split_reply, fewest_reply, Reply, Numbers, Refused, reply_answer, Replied}
use Rattle.std.specs.Prelude.{Result, Ok, Err}
use Rattle.refusal.specs.{declared.Refused.{Refused as Refusal}, Refused.{refuse}}
use Rattle.readings.specs.declared.Report.{Report}
use Rattle.staged.specs.declared.GridShare.{GridShare}
use Rattle.yards.specs.declared.FewestLines.{FewestLines}
use Rattle.yards.specs.declared.FewestLines.TheVariants.{Found, None}

unfoldable FewNumbers : Reply → Type 0
FewNumbers (Numbers count zs) = count < 2 ^ 63
FewNumbers (Refused n l c) = Unit {0}

reply_few : (room : ℕ) (reply : Reply) → FewNumbers reply → Few (reply_answer room reply)
unfolding reply_answer FewNumbers Few
reply_few room (Refused n l c) h = tt
reply_few room (Numbers count zs) h = go (ltb room (length zs))
  where
    go : (b : Bool) → Few (cond b (refuse 8 0 0) (Ok count))
    go true = tt
    go false = h

soil_counted : (a : Result Report Refusal) → FewNumbers (soil_reply a)
unfolding FewNumbers soil_reply
soil_counted (Ok r) = omega arith
soil_counted (Err why) = tt

split_counted : (a : Result GridShare Refusal) → FewNumbers (split_reply a)
unfolding FewNumbers split_reply
split_counted (Ok g) = omega arith
split_counted (Err why) = tt

pub soil_few : (s : Result Report Refusal) {before after : List ℤ} {a : Result ℕ Refusal} → Replied (soil_reply s) before after a → Few a
soil_few s {before} r = rw r.answer_is (reply_few (length before) (soil_reply s) (soil_counted s))

pub split_few : (s : Result GridShare Refusal) {before after : List ℤ} {a : Result ℕ Refusal} → Replied (split_reply s) before after a → Few a
split_few s {before} r = rw r.answer_is (reply_few (length before) (split_reply s) (split_counted s))

fewest_counted : (a : Result FewestLines Refusal) → FewNumbers (fewest_reply a)
unfolding FewNumbers fewest_reply
fewest_counted (Ok (Found a b k)) = omega arith
fewest_counted (Ok (None k)) = omega arith
fewest_counted (Err why) = tt

pub fewest_few : (s : Result FewestLines Refusal) {before after : List ℤ} {a : Result ℕ Refusal} → Replied (fewest_reply s) before after a → Few a
fewest_few s {before} r = rw r.answer_is (reply_few (length before) (fewest_reply s) (fewest_counted s))
