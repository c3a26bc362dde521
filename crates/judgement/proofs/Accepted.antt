-- A sheet that is judged by the count of its value lines has passed every check.
use Prim.Native.Nat.{ℕ}
use mathlib.Core.{Path.{◌≡◌}, List.{List, []}}
use native.Mathlib.Omega.{arith}
use lib.ListN.{length}
use Rattle.case.specs.Columns.{Form}
use Rattle.header.{specs.Header.{columns_of}, proofs.HeaderAccepted.{header_accepted}}
use Rattle.judgement.specs.Limits.{Limits, today}
use Rattle.judgement.specs.{Sheet.{names, value_lines, judgement_within, judgement}, Accepted.{AcceptedWithin, Accepted}}
use Rattle.judgement.proofs.{LinesAccepted.{lines_sound}, Causes.{Cause, lines, cause}}
use Rattle.std.specs.Prelude.{Result, Ok}
use Rattle.refusal.specs.declared.Refused.{Refused}

pub accepted_within : (form : Form) (limits : Limits) (s : List ℕ) (n : ℕ) → judgement_within form limits s ≡ Ok n
    → AcceptedWithin form limits s n
accepted_within form limits s n e = go (rw e at (cause form s limits))
  where
    lines_same : {a b : ℕ} → ◌≡◌ {A = Result ℕ Refused} (Ok a) (Ok b) → b ≡ a
    lines_same h = cc

    go : Cause form s limits (Ok n) → AcceptedWithin form limits s n
    go (lines text right some most q) =
        let l = lines_sound form (columns_of form (names s)) [] _ n _ (value_lines s) q in
        let c : n ≡ length (value_lines s) = lines_same l.then in
        record {
          text = text;
          names_sound = right;
          placed = header_accepted form (names s) right;
          count = c;
          some = omega (arith, some);
          most = omega arith;
          lines = record { line = l.each };
          judged = rw (← c) at q;
        }

pub accepted : (form : Form) (s : List ℕ) (n : ℕ) → judgement form s ≡ Ok n → Accepted form s n
unfolding judgement
accepted form s n e = accepted_within form today s n e
