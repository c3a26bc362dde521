-- The margins of the numbers of a case's row are right.
use mathlib.Core.Path.{◌≡◌, refl, sym, ◌∙◌}
use Rattle.std.specs.Prelude.{ℤ, Option, None, Result, Ok, Err}
use Rattle.refusal.specs.declared.Refused.{Refused}
use Rattle.text.proofs.Clash.{clash}
use Rattle.case.{specs.declared.Case.{Case}, proofs.Bounds.{record_bounds}}
use Rattle.row.specs.{declared.Row.{Row}, Row.{numbers}}
use Rattle.margin.{specs.Margin.{margins_of}, proofs.Right.{right_margins}}
use Rattle.hocsimbur.{specs.Asked.{RowAnswered}, proofs.Answers.{row_sound}}
use Rattle.caller.specs.Margins.{MarginsTold}

module _ {c : Case} {a : Result Row Refused} (h : RowAnswered c a) where
  pub refused_none : {why : Refused} → a ≡ Err why → MarginsTold c None
  refused_none {why} q =
      record {
        right = λ row e. let k : Ok row ≡ Err why = sym e ∙ sym h.answer ∙ q in clash cc;
        refused = λ other e. refl;
      }

  pub margins_told : {row : Row} {r : Option (ℤ × ℤ)} → a ≡ Ok row → r ≡ margins_of (numbers row) → MarginsTold c r
  margins_told {row} q e =
      let t = row_sound c (sym q ∙ h.answer) in
      record {
        right = λ other k. rw (e, t.1) (right_margins (record_bounds t.0));
        refused = λ why f. let k : Ok row ≡ Err why = sym q ∙ h.answer ∙ f in clash cc;
      }
