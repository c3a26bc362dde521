-- Headroom (§6.6), and what cannot make a safe yard unsafe (§10.2, §10.3), for the answers of `row` and the lines of sheets.
use Prim.Native.Nat.{ℕ, ◌<◌}
use mathlib.Core.{Path.{◌≡◌, refl, sym, ◌∙◌}, List.{List}}
use native.Mathlib.Omega.{arith}
use lib.IntN.{ℤ, pos}
use Rattle.text.proofs.Clash.{clash}
use Rattle.tables.proofs.Parts.{part_entry}
use Rattle.case.specs.{declared.{Case.{Case}}, Check.{record_judged}}
use Rattle.decision.specs.declared.Verdict.TheVariants.{Safe}
use Rattle.row.specs.{declared.Row.{Row}, NoWorse.{NoWorse}, LessSoil.{LessSoil}}
use Rattle.headroom.specs.Headroom.{RightRoom, checked as found, HeadroomAnswered}
use Rattle.sheet.{specs.{declared.Answer.TheVariants.{Rows}, Table.{Answered}}, proofs.NoWorse.{no_worse_line_safe}}
use Rattle.sheet.proofs.LessSoil.{drier_line_decides}
use Rattle.hocsimbur.specs.{Asked.{RowAnswered, AnsweredWith}}
use Rattle.hocsimbur.proofs.{NoWorse.{no_worse_row_safe}, HeadroomRows.{headroom_rows, no_headroom_rows}}
use Rattle.claims.specs.{Words.{case_at, verdict_at}, Record.{RecordRefused, RecordSound}}
use Rattle.claims.specs.Later.{HeadroomOutcome, up_to, none, EasedInside}
use Rattle.claims.specs.Later as claim
use Rattle.claims.proofs.{Records.{Checked, refused as checks-refused, sound, checked, record_sound}, Sheets.{case_count}}
use Rattle.std.specs.Prelude.{Some, None, Result, Ok, Err, Option}
use Rattle.refusal.specs.{declared.Refused.{Refused}, Refused.{refuse}}

-- ---- headroom

checked_sound : {c : Case} → record_judged c ≡ Ok tt → RecordSound c
checked_sound {c} e = go (record_judged c) refl (checked c) e
  where
    go : (j : Result (Unit {0}) Refused) → record_judged c ≡ j → Checked c j → j ≡ Ok tt → RecordSound c
    go (Ok u) q (sound i s t) e = record_sound q i s t
    go (Err why) q h e = clash cc

checked_refused : {c : Case} {n l k : ℕ} → record_judged c ≡ refuse n l k → RecordRefused c n l k
checked_refused {c} {n} {l} {k} e = go (rw e at (checked c))
  where
    go : Checked c (refuse n l k) → RecordRefused c n l k
    go (checks-refused h) = h

pub headroom_outcome : {c : Case} {r : Result (Option ℕ) Refused} → HeadroomAnswered c r → HeadroomOutcome c r
unfolding RightRoom found
headroom_outcome {c} {r} h = go r h
  where
    go : (r : Result (Option ℕ) Refused) → HeadroomAnswered c r → HeadroomOutcome c r
    go (Ok (Some F)) h = up_to (checked_sound h.checks) h.right.in_range_lem (λ f a i b. headroom_rows h i b)
    go (Ok None) h = none (checked_sound h.checks) (λ f a i b. no_headroom_rows h i b)
    go (Err why) h = claim.refused (checked_refused h.checks)

-- ---- no worse, and drier

pub no_worse : {c d : Case} {r : Row} {a : Result Row Refused} → RowAnswered c (Ok r) → r.verdict ≡ Safe → NoWorse c d → EasedInside d
    → RowAnswered d a → AnsweredWith Safe a
no_worse h e n d a = no_worse_row_safe n d.station d.season d.fault d.split d.shock d.body h e a

module _ {s t : List ℕ} {before after before' after' : List ℤ} {n m : ℕ} (h : Answered s before after (Rows n))
    (k : Answered t before' after' (Rows m))
    (i j : ℕ) (l : i < n) (g : j < m) where
  pub line_no_worse : NoWorse (case_at s i) (case_at t j) → verdict_at after i ≡ pos 1 → verdict_at after' j ≡ pos 1
  line_no_worse w e =
      sym (part_entry 20 j 2 after' (pos 0) (omega arith))
      ∙ no_worse_line_safe h k i j (omega (arith, case_count h)) (omega (arith, case_count k)) w
      (part_entry 20 i 2 after (pos 0) (omega arith) ∙ e)

  pub line_drier_soil : LessSoil (case_at s i) (case_at t j) → verdict_at after i ≡ pos 1 → ¬ (verdict_at after' j ≡ pos 2)
  line_drier_soil w e u =
      drier_line_decides h k i j (omega (arith, case_count h)) (omega (arith, case_count k)) w
      (part_entry 20 i 2 after (pos 0) (omega arith) ∙ e)
      (part_entry 20 j 2 after' (pos 0) (omega arith) ∙ u)
