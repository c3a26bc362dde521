-- §10.2, for the answers of `row`: where a case is answered safe, a case that is no worse, all else equal, and itself in range is answered
-- safe.
use Prim.Native.Nat.{◌≤◌}
use mathlib.Core.{Path.{◌≡◌, sym, subst, ◌∙◌}, Logic.{◌⊎◌}}
use native.Mathlib.Omega.{arith}
use Rattle.case.{specs.{declared.Case.{Case}, Bounds.{Between, Bounds}}, proofs.Eased.{eased_bounds}}
use Rattle.decision.specs.declared.Verdict.TheVariants.{Safe}
use Rattle.row.{specs.{declared.Row.{Row}, Ends.{row_of}, NoWorse.{NoWorse}}, proofs.{Right.{row_verdict}, NoWorse.{no_worse_safe}}}
use Rattle.hocsimbur.specs.{Asked.{RowAnswered, AnsweredWith}}
use Rattle.hocsimbur.proofs.Answers.{row_says, bounds_answered}
use Rattle.std.specs.Prelude.{Result, Ok}
use Rattle.refusal.specs.{declared.Refused.{Refused}}

module _ {c d : Case} (n : NoWorse c d) (k : Between 1 d.station 65535) (s : Between 1 d.season 4) (f : Between 100 d.fault 80000)
    (p : Between 1 d.split 1000) (t : 9 ≤ d.shock) (w : (d.body ≡ 50) ⊎ (d.body ≡ 70)) where
  no_worse_bounds : Bounds c → Bounds d
  no_worse_bounds b =
      subst (λ (e : Case). Bounds e) (sym n.all_else)
      (eased_bounds c d.station d.season d.fault d.split d.shock d.body b k s f p
      (record { low = t; high = omega (arith, n.shorter, b.shock.high) }) w)

  -- the theorem
  pub no_worse_row_safe : {r : Row} {a : Result Row Refused} → RowAnswered c (Ok r) → r.verdict ≡ Safe → RowAnswered d a → AnsweredWith Safe a
  no_worse_row_safe h e a =
      let says = row_says h e in
      record {
        row = row_of d;
        is = bounds_answered (no_worse_bounds says.0) a;
        verdict = row_verdict d ∙ no_worse_safe says.0 t n says.1;
      }
