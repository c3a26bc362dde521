-- The answer as one number is 1 to 256, or −8 to −1.
use Prim.Native.Nat.{ℕ, zero, suc, ◌*◌, ◌/◌, ◌≤◌}
use mathlib.Core.{Path.{◌≡◌, refl, sym}, Bool.{Bool, true, false, cond}, List.{List}}
use native.Mathlib.Omega.{arith}
use lib.{Dec.{ltb}, IntN.{ℤ}, ListN.{length}}
use Rattle.text.proofs.Clash.{clash}
use Rattle.case.specs.Columns.{columns}
use Rattle.judgement.{specs.Sheet.{judgement}, proofs.Numbers.{Numbered, number, judgement_numbered}}
use Rattle.row.specs.Row.{row_length}
use Rattle.sheet.specs.{declared.Answer.{Answer}, Answer.{table_refused, answer_by, answer}}
use Rattle.sheet.specs.declared.Answer.TheVariants as sheet
use Rattle.sheet.proofs.Accepted.{accepted}
use Rattle.c_bytes.specs.Bytes.{number_bytes}
use Rattle.c_tell.specs.Answer.{signed_answer}
use Rattle.c_entry.specs.{Range.{InRange}, Buffer.{row_count, answer_for, Answered}}
use Rattle.std.specs.Prelude.{Result, Ok, Err}
use Rattle.refusal.specs.{declared.Refused.{Refused}, Refused.{refuse}}

-- ---- a refusal has a number from 1 to 8: a judgement's is 1 to 7

refusal_range : (k l c : ℕ) → 1 ≤ k → k ≤ 8 → InRange (signed_answer (refuse k l c))
unfolding InRange signed_answer
refusal_range zero l c p q = absurd (omega arith)
refusal_range (suc k) l c p q = omega arith

by_room : (room : ℕ) (j : Result ℕ Refused) → Numbered j → (k l c : ℕ) → answer_by room j ≡ sheet.Refused k l c → InRange (signed_answer (refuse k l c))
unfolding answer_by table_refused
by_room room (Err why) (number m p q) k l c e =
    let same : m ≡ k = cc in
    refusal_range k l c (omega arith) (omega arith)
by_room room (Ok n) p k l c e = go (ltb room (row_length * n)) e
  where
    go : (b : Bool) → cond b (sheet.Refused 8 0 0) (sheet.Rows n) ≡ sheet.Refused k l c → InRange (signed_answer (refuse k l c))
    go true h = let q : 8 ≡ k = cc in refusal_range k l c (omega arith) (omega arith)
    go false h = clash cc

in_range_lem : (s : List ℕ) (room : ℕ) (a : Answer) → a ≡ answer s room → InRange (signed_answer (row_count a))
unfolding InRange signed_answer row_count answer
in_range_lem s room (sheet.Rows n) e = let h = (accepted s room n (sym e)).sheet in (h.some, h.most)
in_range_lem s room (sheet.Refused k l c) e = by_room room (judgement columns s) (judgement_numbered columns s) k l c (sym e)

pub answer_in_range : {s before after : List ℕ} {r : ℤ} → Answered s before after r → InRange r
unfolding answer_for
answer_in_range {s} {before} {after} {r} h = rw h.answer_is (in_range_lem s (length before / number_bytes) _ refl)
