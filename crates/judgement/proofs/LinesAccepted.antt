-- Lines whose answer is a count of lines are sound.
use Prim.Native.Nat.{ℕ, zero, suc, ◌<◌}
use mathlib.Core.{Path.{◌≡◌, refl}, Bool.{Bool, true, false, cond}, List.{List, [], ◌∷◌}}
use native.Mathlib.Omega.{arith}
use lib.{ListN.{length, get_or}, Dec.{eqb}}
use borrow.Author.Tests.{eqb-true}
use Rattle.text.{specs.Text.{fields_of}, proofs.Clash.{clash}}
use Rattle.case.specs.Columns.{Form}
use Rattle.line.specs.Line.{wrong_form, line_values}
use Rattle.line_finding.specs.{declared.LineFinding.{LineFinding, TheVariants.{Sound, Form as WrongForm}}, Findings.{line_finding}}
use Rattle.line_finding.proofs.LineChecked.{sound_case}
use Rattle.judgement.specs.{Sheet.{lines_judgement}, Accepted.{SoundLine}}
use Rattle.judgement.proofs.LineJudged.{sound_line}
use Rattle.std.specs.Prelude.{Result, Ok}
use Rattle.refusal.specs.{declared.Refused.{Refused}}

sound_form : (b : Bool) (c : ℕ) (f : LineFinding) → cond b f (WrongForm c) ≡ Sound → (b ≡ true) × (f ≡ Sound)
sound_form true c f e = (refl, e)
sound_form false c f e = clash cc

sound_checks : (form : Form) (at line : List ℕ) (earlier : List (List ℕ)) → line_finding form at earlier (fields_of line) ≡ Sound
    → SoundLine form at line
unfolding line_finding
sound_checks form at line earlier e =
    let q = sound_form (eqb (wrong_form (length form) 1 (fields_of line)) 0) _ _ e in
    record { form_sound = eqb-true _ 0 q.0; values_sound = sound_case _ _ q.1 }

pub record LinesSound (form : Form) (at : List ℕ) (ls : List (List ℕ)) (sound : Result ℕ Refused) (m : ℕ) : Type 0 where
  pub each : (i : ℕ) → i < length ls → SoundLine form at (get_or ls i [])
  pub then : sound ≡ Ok m

pub lines_sound : (form : Form) (at : List ℕ) (earlier : List (List ℕ)) (n m : ℕ) (sound : Result ℕ Refused) (ls : List (List ℕ))
    → lines_judgement form at earlier n sound ls ≡ Ok m → LinesSound form at ls sound m
unfolding lines_judgement
lines_sound form at earlier n m sound [] e = record { each = λ i h. absurd (omega arith); then = e }
lines_sound form at earlier n m sound (l ∷ ls) e =
    let f = sound_line n _ (line_finding form at earlier (fields_of l)) refl e in
    let t = lines_sound form at (line_values at (fields_of l) ∷ earlier) (suc n) m sound ls f.1 in
    record { each = cons (sound_checks form at l earlier f.0) t.each; then = t.then }
  where
    cons : SoundLine form at l → ((i : ℕ) → i < length ls → SoundLine form at (get_or ls i [])) → (i : ℕ) → i < suc (length ls)
        → SoundLine form at (get_or (l ∷ ls) i [])
    cons p r zero h = p
    cons p r (suc i) h = r i (omega arith)
