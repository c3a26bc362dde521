-- The cases of an accepted sheet: each is sound, and none has the station and season of an earlier one. Carried over they are so in the
-- other form.
use Prim.Native.Nat.{ℕ, suc}
use mathlib.Core.{Path.{◌≡◌, refl, ◌∙◌}, Bool.{Bool, true, false, cond}, List.{List, [], ◌∷◌, map}}
use lib.{Dec.{eqb}, ListN.{length, length-map}}
use borrow.Author.Tests.{eq-eqb}
use Rattle.text.{specs.Text.{fields_of, same}, proofs.Clash.{clash}}
use Rattle.writing.specs.Text.{all_lines}
use Rattle.case.specs.declared.{Form.{Form as CodeForm, TheVariants.{Present, Former}}, Finding.{Finding}}
use Rattle.case.specs.{Columns.{Form, columns, former_columns, name_index, named}, Check.{finding}, Bounds.{Placed}, Parts.{form_of}}
use Rattle.case.specs.declared.Finding.TheVariants as found
use Rattle.line.specs.Line.{wrong_form, line_values}
use Rattle.line_finding.specs.Findings.{or_finding, same_key, repeats, line_finding}
use Rattle.line_finding.specs.declared.LineFinding.TheVariants as line
use Rattle.judgement.specs.{Sheet.{value_lines, lines_judgement}, Accepted.{Accepted}}
use Rattle.judgement.proofs.LineJudged.{sound_line}
use Rattle.carried_values.specs.Values.{other, present_values, former_values, carried, cases_in}
use Rattle.carried_values.proofs.Soundness.{Sound, sound_values, sound_small, carried_sound}
use Rattle.std.specs.Prelude.{Result, Ok}
use Rattle.refusal.specs.{declared.Refused.{Refused}}

-- after the cases of earlier lines
abbrev pub SoundCases : Form → List (List ℕ) → List (List ℕ) → Type 0
SoundCases form earlier [] = Unit {0}
SoundCases form earlier (v ∷ vs) = Sound form v × ((repeats form v earlier ≡ false) × SoundCases form (v ∷ earlier) vs)

-- ---- of an accepted sheet

-- what a sound line says of its values
sound_parts : (b : Bool) (c : ℕ) (f : Finding) (r : Bool)
    → cond b (or_finding f (cond r line.Repeated line.Sound)) (line.Form c) ≡ line.Sound → (f ≡ found.Sound) × (r ≡ false)
unfolding or_finding
sound_parts true c found.Sound false e = (refl, refl)
sound_parts true c found.Sound true e = clash cc
sound_parts true c (found.OutOfRange k) r e = clash cc
sound_parts true c (found.Disagreement k) r e = clash cc
sound_parts false c f r e = clash cc

lines_sound : (form : Form) (at : List ℕ) → Placed (length form) at
    → (earlier : List (List ℕ)) (n m : ℕ) (sound : Result ℕ Refused) (ls : List (List ℕ))
    → lines_judgement form at earlier n sound ls ≡ Ok m → SoundCases form earlier (map (λ l. line_values at (fields_of l)) ls)
unfolding lines_judgement line_finding line_values
lines_sound form at p earlier n m sound [] e = tt
lines_sound form at p earlier n m sound (l ∷ ls) e =
    let f = sound_line n _ (line_finding form at earlier (fields_of l)) refl e in
    let q =
    sound_parts (eqb (wrong_form (length form) 1 (fields_of l)) 0) _ (finding form at (line_values at (fields_of l)))
    (repeats form (line_values at (fields_of l)) earlier) f.0 in
    (sound_values p (values_count l) q.0, (q.1, lines_sound form at p (line_values at (fields_of l) ∷ earlier) (suc n) m sound ls f.1))
  where
    values_count : (l : List ℕ) → length (line_values at (fields_of l)) ≡ length form
    values_count l = length-map at _ ∙ p.count

pub accepted_cases : {form : Form} {s : List ℕ} {n : ℕ} → Accepted form s n → SoundCases form [] (cases_in form s)
unfolding cases_in
accepted_cases {form} {s} {n} a = lines_sound form _ a.placed [] 2 n (Ok n) (value_lines s) a.judged

-- ---- carried over

carried_key : (form : CodeForm) (v w : List ℕ) → same_key (form_of form) (carried form v) (carried form w) ≡ same_key (form_of (other form)) v w
unfolding same_key named name_index same form_of other carried present_values former_values columns former_columns
carried_key Present v w = refl
carried_key Former v w = refl

carried_repeats : (form : CodeForm) (v : List ℕ) (earlier : List (List ℕ))
    → repeats (form_of form) (carried form v) (map (carried form) earlier) ≡ repeats (form_of (other form)) v earlier
unfolding repeats
carried_repeats form v [] = refl
carried_repeats form v (w ∷ earlier) = rw (carried_key form v w, carried_repeats form v earlier)

pub carried_cases : (form : CodeForm) (earlier vs : List (List ℕ)) → SoundCases (form_of (other form)) earlier vs
    → SoundCases (form_of form) (map (carried form) earlier) (map (carried form) vs)
carried_cases form earlier [] s = tt
carried_cases form earlier (v ∷ vs) s =
    (carried_sound form v s.0, (carried_repeats form v earlier ∙ s.1.0, carried_cases form (v ∷ earlier) vs s.1.1))

-- ---- cases that can be written

pub all_lines_lem : (form : CodeForm) (earlier vs : List (List ℕ)) → SoundCases (form_of form) earlier vs
    → all_lines (length (form_of form)) vs ≡ true
unfolding all_lines
all_lines_lem form earlier [] s = refl
all_lines_lem form earlier (v ∷ vs) s =
    rw (eq-eqb (length v) (length (form_of form)) s.0.count, sound_small form s.0, all_lines_lem form (v ∷ earlier) vs s.1.1)
