-- What the checks of one line find: its form, then its values.
use Prim.Native.Nat.{ℕ}
use mathlib.Core.{Path.{◌≡◌, refl, sym, ◌∙◌}, Bool.{cond}, List.{List}}
use lib.ListN.{length, get_or}
use borrow.Author.Tests.{ne_eqb}
use Rattle.std.specs.Prelude.{Result, Ok, Err}
use Rattle.text.{specs.Text.{fields_of}, proofs.Clash.{clash}}
use Rattle.case.specs.{Columns.{Form}, declared.Finding.{Finding}, Check.{finding}}
use Rattle.case.specs.declared.Finding.TheVariants as found
use Rattle.line.{specs.{Line.{line_values}, Parts.{LineValues}}, proofs.ValuesReading.{form_right, form_wrong}}
use Rattle.line_finding.specs.declared.LineFinding.{LineFinding, TheVariants.{Sound, Form as WrongForm, Repeated}}
use Rattle.line_finding.specs.{Findings.{or_finding, line_finding}, Parts.{Keyable, packed, keys_of, seen_in, Checks}}
use Rattle.line_finding.proofs.Keys.{Keyed, seen_repeats}

-- what follows counts where the values are sound
or_same : {x y : LineFinding} (f : Finding) → (f ≡ found.Sound → x ≡ y) → or_finding f x ≡ or_finding f y
unfolding or_finding
or_same found.Sound h = h refl
or_same (found.OutOfRange c) h = refl
or_same (found.Disagreement c) h = refl

pub sound_case : (f : Finding) (next : LineFinding) → or_finding f next ≡ Sound → f ≡ found.Sound
unfolding or_finding
sound_case found.Sound next e = refl
sound_case (found.OutOfRange c) next e = clash cc
sound_case (found.Disagreement c) next e = clash cc

module _ {form : Form} {order line row : List ℕ} {columns : Result Unit ℕ} (at : List ℕ) (l : LineValues (length form) order line columns row) where
  pub judged_form : {c : ℕ} (earlier : List (List ℕ)) → columns ≡ Err c → Checks form at earlier line (WrongForm c) row
  unfolding line_finding
  judged_form {c} earlier h =
      let w = form_wrong l h in
      record { found_is = rw (w.is, ne_eqb c 0 w.some); row_is = λ e. clash cc; count = l.count; keyable = λ e. clash cc }

  pub judged_values : {f : LineFinding} (keys : List ℕ) (n : ℕ) → Keyed form
      → (finding form at row ≡ found.Sound → Keyable (get_or row 0 0) (get_or row 1 0)) → columns ≡ Ok tt → row ≡ line_values at (fields_of line)
      → f ≡ or_finding (finding form at row) (cond (seen_in (packed (get_or row 0 0) (get_or row 1 0)) keys n) Repeated Sound)
      → Checks form at (keys_of keys n) line f row
  unfolding line_finding
  judged_values keys n keyed fits h p q =
      record {
        found_is =
            rw (form_right l h, ← p) (q ∙ or_same (finding form at row)
            (λ e. rw (seen_repeats keyed row keys n (fits e).season_few)));
        row_is = λ e. p;
        count = l.count;
        keyable = λ e. fits (sound_case (finding form at row) _ (sym q ∙ e));
      }
