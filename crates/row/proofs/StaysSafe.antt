-- §10.1: less fault current, all else equal, is no worse, so a safe yard stays safe and is never answered unsafe.
use mathlib.Core.Path.{◌≡◌, ap, ◌∙◌}
use native.Mathlib.{Omega.{arith}, Nat.{mul-le-mul_right}}
use Rattle.case.specs.{declared.Case.{Case}, Bounds.{Bounds}}
use Rattle.decision.specs.declared.Verdict.TheVariants.{Safe}
use Rattle.row.specs.{Ends.{case_verdict}, LessFault.{LessFault}, NoWorse.{NoWorse}}
use Rattle.row.proofs.NoWorse.{no_worse_safe}

-- what else no worse speaks of stays
pub record Stays (c d : Case) : Type 0 where
  pub split : d.split ≡ c.split
  pub shock : d.shock ≡ c.shock
  pub body : d.body ≡ c.body

pub less_stays : {c d : Case} → LessFault c d → Stays c d
less_stays l =
    record { split = ap (λ e. e.split) l.all_else; shock = ap (λ e. e.shock) l.all_else; body = ap (λ e. e.body) l.all_else }

pub less_no_worse : {c d : Case} → LessFault c d → NoWorse c d
less_no_worse {c} {d} l =
    let s = less_stays l in
    record {
      all_else = l.all_else ∙ rw (s.split, s.shock, s.body);
      enters = rw s.split (mul-le-mul_right c.split l.less);
      shorter = omega (arith, s.shock);
      heavier = omega (arith, s.body);
    }

-- the theorem
pub safe_stays : {c : Case} → Bounds c → {d : Case} → LessFault c d → case_verdict c ≡ Safe → case_verdict d ≡ Safe
safe_stays b l e = no_worse_safe b (omega (arith, (less_stays l).shock, b.shock.low)) (less_no_worse l) e
