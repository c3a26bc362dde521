-- Every accepted sheet carried over: the carried sheet is accepted by its form with a line for each case, its cases are the carried ones in
-- their order, and carried back it has the cases of the source. §8.3.
use Prim.Native.Nat.{ℕ, ◌≤◌}
use mathlib.Core.{Path.{◌≡◌, refl, ap, ◌∙◌}, List.{List, [], map}}
use native.Mathlib.Omega.{arith}
use lib.ListN.{length, length-map}
use Rattle.case.specs.{declared.Form.{Form, TheVariants.{Present, Former}}, Parts.{form_of}}
use Rattle.judgement.specs.{Limits.{most_bytes}, Sheet.{names, judgement}, Accepted.{Accepted}}
use Rattle.judgement.proofs.{Accepted.{accepted}, StoredLines.{values_count}}
use Rattle.carried_values.specs.{Values.{other, carried, cases_in}, Changes.{changes}}
use Rattle.carried_values.proofs.{SoundCases.{SoundCases, accepted_cases, carried_cases}, Restored.{restored, nothing_left_out}}
use Rattle.conversion.specs.Answer.{carried_text}
use Rattle.conversion.proofs.ReadsBack.{names_are, text_short, cases_back, accepted_back}
use Rattle.std.specs.Prelude.{Ok}

other_twice : (form : Form) → other (other form) ≡ form
unfolding other
other_twice Present = refl
other_twice Former = refl

-- a sheet of the other form that its own checks accept
module _ (form : Form) (s : List ℕ) (n : ℕ) (e : judgement (form_of (other form)) s ≡ Ok n) where
  source : Accepted (form_of (other form)) s n
  source = accepted (form_of (other form)) s n e

  cases : SoundCases (form_of (other form)) [] (cases_in (form_of (other form)) s)
  cases = accepted_cases source

  made : SoundCases (form_of form) [] (map (carried form) (cases_in (form_of (other form)) s))
  made = carried_cases form [] (cases_in (form_of (other form)) s) cases

  count : length (map (carried form) (cases_in (form_of (other form)) s)) ≡ n
  unfolding cases_in
  count = length-map (cases_in (form_of (other form)) s) (carried form) ∙ values_count source

  -- "Cases keep their order, their other values are unchanged by either way"
  pub carried_over : cases_in (form_of form) (carried_text form s) ≡ map (carried form) (cases_in (form_of (other form)) s)
  unfolding carried_text
  carried_over = cases_back form (map (carried form) (cases_in (form_of (other form)) s)) made

  -- the carried sheet is one that its form accepts, with as many lines
  pub carried_accepted : judgement (form_of form) (carried_text form s) ≡ Ok n
  unfolding carried_text
  carried_accepted =
      accepted_back form (map (carried form) (cases_in (form_of (other form)) s)) made (omega (arith, count, source.some))
      (omega (arith, count, source.most)) ∙ ap Ok count

  -- its names are the form's, in the form's order
  pub carried_names : names (carried_text form s) ≡ map (λ c. c.name) (form_of form)
  unfolding carried_text
  carried_names = names_are form (map (carried form) (cases_in (form_of (other form)) s)) made

  -- and no longer than a sheet may be
  pub carried_short : length (carried_text form s) ≤ most_bytes
  unfolding carried_text
  carried_short = text_short form (map (carried form) (cases_in (form_of (other form)) s)) made (omega (arith, count, source.most))

  -- "there and back restores every value"
  pub there_and_back : changes form (cases_in (form_of (other form)) s) ≡ Ok tt
      → map (carried (other form)) (cases_in (form_of form) (carried_text form s)) ≡ cases_in (form_of (other form)) s
  there_and_back k = ap (map (carried (other form))) carried_over ∙ restored form (cases_in (form_of (other form)) s) cases k

-- both ways, sheet by sheet: the carried sheet is not refused on the way back, and what comes back has the source's cases
module _ (form : Form) (s : List ℕ) (n : ℕ) (e : judgement (form_of (other form)) s ≡ Ok n)
    (k : changes form (cases_in (form_of (other form)) s) ≡ Ok tt) where
  pub back_not_refused : changes (other form) (cases_in (form_of (other (other form))) (carried_text form s)) ≡ Ok tt
  back_not_refused = rw (other_twice form, carried_over form s n e) (nothing_left_out form (cases_in (form_of (other form)) s))

  pub sheet_restored : cases_in (form_of (other form)) (carried_text (other form) (carried_text form s)) ≡ cases_in (form_of (other form)) s
  sheet_restored =
      carried_over (other form) (carried_text form s) n (rw (other_twice form) (carried_accepted form s n e))
      ∙ rw (other_twice form) (there_and_back form s n e k)
