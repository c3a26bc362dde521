-- §3.2: a right row that is safe is safe for the exact values; what is not a safe row is not released.
use mathlib.Core.{Path.{◌≡◌, refl, sym, ◌∙◌}, Bool.{true, false}}
use Rattle.std.specs.Prelude.{Result, Ok, Err}
use Rattle.refusal.specs.declared.Refused.{Refused}
use Rattle.text.proofs.Clash.{clash}
use Rattle.case.specs.declared.Case.{Case}
use Rattle.decision.specs.declared.Verdict.{TheVariants.{Safe, Unsafe, Undecided}, Verdict}
use Rattle.row.specs.{declared.Row.{Row}, Row.{RightRow}}
use Rattle.hocsimbur.specs.Asked.{RightAnswer, row_answer, RowAnswered}
use Rattle.caller.specs.Release.{Released}

-- not released, where no row of the answer is safe
held : (c : Case) → ((row : Row) → row_answer c ≡ Ok row → row.verdict ≡ Safe → ⊥) → Released c false
held c none =
    record { safe = λ e. clash cc; touch = λ e. clash cc; step = λ e. clash cc; none_held_back = λ row e s. absurd (none row e s) }

module _ {c : Case} {r : Result Row Refused} (a : RowAnswered c r) where
  pub refused_held : {why : Refused} → r ≡ Err why → Released c false
  refused_held {why} q = held c (λ row e s. let k : Ok row ≡ Err why = sym e ∙ sym a.answer ∙ q in clash cc)

  module _ {row : Row} (q : r ≡ Ok row) where
    pub verdict_held : (v : Verdict) → row.verdict ≡ v → (v ≡ Safe → ⊥) → Released c false
    verdict_held v t n =
        held c (λ other e s. let k : Ok row ≡ Ok other = sym q ∙ a.answer ∙ e in let same : row ≡ other = cc in n (sym t ∙ (rw same s)))

    pub released : row.verdict ≡ Safe → Released c true
    unfolding RightAnswer
    released s =
        let right : RightRow c row = rw q at a.right in
        let safe = right.safe_true (sym right.verdict ∙ s) in
        record {
          safe = λ t. record { row = row; is = sym a.answer ∙ q; verdict = s };
          touch = λ t. safe.0;
          step = λ t. safe.1;
          none_held_back = λ other e v. refl;
        }

pub not_unsafe : Unsafe ≡ Safe → ⊥
not_unsafe e = clash cc

pub not_undecided : Undecided ≡ Safe → ⊥
not_undecided e = clash cc
