-- A sheet whose answer is a count of rows has passed every check, and each of its cases is within its bounds.
use Prim.Native.Nat.{ℕ, ◌*◌}
use mathlib.Core.{Path.{◌≡◌, refl, ap, ◌∙◌}, Bool.{Bool, true, false, cond}, List.{List}}
use lib.{ListN.{length, length-map}, Dec.{ltb}}
use borrow.Author.Tests.{ltb-false}
use Rattle.text.{specs.Text.{fields_of}, proofs.Clash.{clash}}
use Rattle.case.{specs.{Columns.{columns, name_count_lem}, Check.{case_finding}, Bounds.{Placed, Bounds}}, proofs.Bounds.{bounds}}
use Rattle.case.proofs.Values.{values_of_case}
use Rattle.line.specs.Line.{line_values, line_case}
use Rattle.row.specs.Row.{row_length}
use Rattle.judgement.specs.{Sheet.{judgement}, Accepted.{SoundLine}}
use Rattle.judgement.proofs.Accepted as judging
use Rattle.sheet.specs.{declared.Answer.TheVariants.{Rows, Refused}, Answer.{table_refused, answer_by, answer}, Accepted.{Accepted}}
use Rattle.std.specs.Prelude.{Result, Ok, Err}
use Rattle.refusal.specs.{declared.Refused.{Refused as Refusal}}

-- what a count of rows says of the judgement
record RowsCounted (room n : ℕ) (j : Result ℕ Refusal) : Type 0 where
  lines : j ≡ Ok n
  room_left : ltb room (row_length * n) ≡ false

rows_counted : (room n : ℕ) (j : Result ℕ Refusal) → answer_by room j ≡ Rows n → RowsCounted room n j
unfolding answer_by table_refused
rows_counted room n (Err why) e = clash cc
rows_counted room n (Ok m) e = go (ltb room (row_length * m)) refl e
  where
    go : (b : Bool) → ltb room (row_length * m) ≡ b → cond b (Refused 8 0 0) (Rows m) ≡ Rows n → RowsCounted room n (Ok m)
    go true f h = clash cc
    go false f h = let q : m ≡ n = cc in record { lines = ap Ok q; room_left = rw (← q) f }

pub accepted : (s : List ℕ) (room n : ℕ) → answer s room ≡ Rows n → Accepted s room n
unfolding answer
accepted s room n e =
    let c = rows_counted room n (judgement columns s) e in
    record { sheet = judging.accepted columns s n c.lines; fits = ltb-false room (row_length * n) c.room_left }

-- the case of a sound line is within its bounds
pub sound_bounds : {at line : List ℕ} → Placed (length columns) at → SoundLine columns at line → Bounds (line_case at (fields_of line))
unfolding line_case line_values case_finding
sound_bounds {at} {line} p l =
    bounds p (rw (values_of_case (line_values at (fields_of line)) (length-map at _ ∙ p.count ∙ name_count_lem)) l.values_sound)
