-- §10.1, for the answers of `row`: where a case is answered safe, the same case with a lower fault current that is itself in range is
-- answered safe, and so never unsafe.
use Prim.Native.Nat.{◌≤◌}
use mathlib.Core.Path.{◌≡◌}
use native.Mathlib.Omega.{arith}
use Rattle.case.specs.{declared.Case.{Case}, Bounds.{Between, Bounds}}
use Rattle.decision.specs.declared.Verdict.TheVariants.{Safe}
use Rattle.row.{specs.{declared.Row.{Row}, LessFault.{LessFault}}, proofs.StaysSafe.{less_stays, less_no_worse}}
use Rattle.hocsimbur.specs.{Asked.{RowAnswered, AnsweredWith}}
use Rattle.hocsimbur.proofs.{Answers.{row_says}, NoWorse.{no_worse_row_safe}}
use Rattle.std.specs.Prelude.{Result, Ok}
use Rattle.refusal.specs.{declared.Refused.{Refused}}

pub row_stays_safe : {c d : Case} {r : Row} {a : Result Row Refused} → RowAnswered c (Ok r) → r.verdict ≡ Safe → LessFault c d
    → Between 1 d.station 65535 → Between 1 d.season 4 → 100 ≤ d.fault → RowAnswered d a → AnsweredWith Safe a
row_stays_safe {c} {d} h e l k s low a =
    let b : Bounds c = (row_says h e).0 in
    let stays = less_stays l in
    no_worse_row_safe (less_no_worse l) k s (record { low = low; high = omega (arith, l.less, b.fault.high) })
    (rw stays.split b.split)
    (omega (arith, stays.shock, b.shock.low)) (rw stays.body b.body) h e a
