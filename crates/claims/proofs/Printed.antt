-- §3.3: what `verdict` prints, from the promise about its text.
use Prim.Native.Nat.{ℕ, ◌≤◌, ◌<◌}
use mathlib.Core.{Path.{◌≡◌, refl, sym, ap, ◌∙◌}, Bool.{Bool, true, false, cond}, List.{List, [], ◌∷◌, ◌++◌, map, append-nil}}
use native.Mathlib.Omega.{arith}
use lib.{ListN.{length, get_or, drop, length-map}, Seq.{take_at, drop_at}, Dec.{leb}}
use borrow.Author.Tests.{leb-true, leb-false}
use Rattle.case.specs.{Case.{case_of}, Columns.{columns}}
use Rattle.text.specs.Text.{bytes}
use Rattle.writing.specs.{Decimal.{decimal}, Text.{parted, more_fields, text_of}}
use Rattle.judgement.specs.Sheet.{judgement}
use Rattle.row.specs.{declared.Row.{Row}, Ends.{row_of}}
use Rattle.sheet.specs.Answer.{cases}
use Rattle.stations.specs.Answer.{sheet_rows}
use Rattle.listing.specs.{declared.Program.TheVariants.{Verdict}, Programs.{program_text}, Told.{Told}}
use Rattle.fields.specs.{Refusal.{numbered, refused_text, unless_refused}, Listed.{listed}}
use Rattle.row_text.specs.{Verdict.{verdict_names, verdict_fields}, Room.{text_room}}
use Rattle.sheet_text.specs.Texts.{verdict_text}
use Rattle.claims.specs.Printed.{Printed, RowPrinted, VerdictOutcome, rows, refused, short}
use Rattle.claims.proofs.{Lines.{map_at}, Sheets.{cases_count, bounds_at}, RowNumbers.{row_alone}}
use Rattle.claims.specs.Words.{BreaksNone, case_at}
use Rattle.std.specs.Prelude.{Result, Ok, Err}
use Rattle.refusal.specs.{declared.Refused.{Refused}}

-- the line of a row
abbrev line : Row → List ℕ
line r = parted (verdict_fields r)

lines_of : (rs : List Row) → map parted (map verdict_fields rs) ≡ map line rs
lines_of [] = refl
lines_of (r ∷ rs) = ap (λ (ls : List (List ℕ)). line r ∷ ls) (lines_of rs)

line_at : (s : List ℕ) (i : ℕ) → i < length (cases s) → get_or (map line (sheet_rows s)) i [] ≡ line (row_of (case_at s i))
line_at s i h =
    let l : length (sheet_rows s) ≡ length (cases s) = length-map (cases s) row_of in
    map_at line (sheet_rows s) i (row_of (case_of [])) [] (omega arith) ∙ ap line (map_at row_of (cases s) i (case_of []) (row_of (case_of [])) h)

printed_row : (s : List ℕ) {n : ℕ} → BreaksNone s n → (i : ℕ) → i < n → i < length (cases s)
    → RowPrinted (case_at s i) (get_or (map line (sheet_rows s)) i [])
unfolding verdict_fields
printed_row s b i l h = record { r = row_of (case_at s i); own_row = row_alone (bounds_at s b i l); is = line_at s i h }

names_line_lem : parted verdict_names ≡ bytes "station,season,verdict,kcmil"
unfolding verdict_names parted more_fields
names_line_lem = refl

refusal_line : (number line column : ℕ)
    → refused_text number line column ≡ text_of (parted (bytes "refused" ∷ decimal number ∷ decimal line ∷ decimal column ∷ []) ∷ [])
unfolding refused_text numbered text_of
refusal_line number line column = sym (append-nil _)

-- where the text t stands in the buffer
at_start : {t before after : List ℕ} {r : ℕ} (ls : List (List ℕ)) → r ≡ length t → after ≡ t ++ drop (length t) before → t ≡ text_of ls
    → Printed ls before after r
at_start {t} {before} ls q w e =
    record {
      text = rw (w, q) (take_at t (drop (length t) before) (length t) refl ∙ e);
      rest = rw (w, q) (drop_at t (drop (length t) before) (length t) refl);
    }

module _ {s before after : List ℕ} {r : ℕ} where
  shown : text_room ≤ length before → (j : Result ℕ Refused) → judgement columns s ≡ j
      → r ≡ length (unless_refused j (listed verdict_names (map verdict_fields (sheet_rows s))))
      → after
      ≡ unless_refused j (listed verdict_names (map verdict_fields (sheet_rows s)))
      ++ drop (length (unless_refused j (listed verdict_names (map verdict_fields (sheet_rows s))))) before
      → VerdictOutcome s before after r
  unfolding unless_refused listed
  shown room (Ok n) e q w =
      let k : n ≡ length (cases s) = cases_count s n e in
      rows n (map line (sheet_rows s)) room e (length-map (sheet_rows s) line ∙ length-map (cases s) row_of ∙ sym k)
      (λ i h. printed_row s e i h (omega arith))
      (at_start _ q w (ap (λ (ls : List (List ℕ)). text_of (parted verdict_names ∷ ls)) (lines_of (sheet_rows s))
      ∙ ap (λ (l : List ℕ). text_of (l ∷ map line (sheet_rows s))) names_line_lem))
  shown room (Err why) e q w = refused why.0 why.1 why.2 room e (at_start _ q w (refusal_line why.0 why.1 why.2))

  pub verdict_outcome : Told text_room (program_text Verdict s) before after r → VerdictOutcome s before after r
  unfolding program_text verdict_text
  verdict_outcome p = go (leb text_room (length before)) refl p.answer p.holds
    where
      go : (b : Bool) → leb text_room (length before) ≡ b → r ≡ cond b (length (verdict_text s)) 0
          → after ≡ cond b (verdict_text s ++ drop (length (verdict_text s)) before) before → VerdictOutcome s before after r
      go true e q w = shown (leb-true _ _ e) (judgement columns s) refl q w
      go false e q w = short (leb-false _ _ e) q w
