-- A sheet of sound cases reads back: it is accepted by its own form, and its cases are those written. One law for both forms.
use Prim.Native.Nat.{ℕ, zero, suc, ◌+◌, ◌*◌, ◌-◌, ◌≤◌, ◌<◌}
use mathlib.Core.{Path.{◌≡◌, refl, ap, ◌∙◌}, Bool.{true, false}, List.{List, [], ◌∷◌, ◌++◌, map, append-nil}}
use native.Mathlib.{Nat.{mul-le-mul}, Omega.{arith}}
use lib.{Dec.{leb}, ListN.{length, get_or, length-append, length-map}, Seq.{get_or-append-add}}
use borrow.Author.Tests.{eq-eqb, ne_eqb, le-leb, lt-leb, le-ltb, leb-true}
use Rattle.text.specs.Text.{lines_of, fields_of, same}
use Rattle.writing.specs.{Decimal.{decimal}, Text.{more_fields, parted, ended, text_of, value_line, sheet_text, lacks, all_lack, all_values}}
use Rattle.writing.proofs.{Decimal.{decimal_is_value}, ReadBack.{both}, Sheet.{Names, sheet_lines, line_fields, line_numbers, sheet_back}}
use Rattle.writing.proofs.Lengths.{sheet_most}
use Rattle.case.specs.declared.Form.{Form as CodeForm, TheVariants.{Present, Former}}
use Rattle.case.specs.{Columns.{columns, former_columns, name_count, name_index}, Check.{count_from}, Parts.{form_of}}
use Rattle.case.proofs.{Findings.{form_most}, Values.{entries_from}}
use Rattle.header.specs.Header.{no_columns, fresh, wrong_name, columns_from, columns_of}
use Rattle.line.specs.Line.{wrong_form, line_values}
use Rattle.line_finding.specs.Findings.{or_finding, repeats, line_finding}
use Rattle.line_finding.specs.declared.LineFinding.TheVariants as line
use Rattle.judgement.specs.Limits.{today, most_bytes, most_lines}
use Rattle.judgement.specs.Refusal.{line_judgement}
use Rattle.judgement.specs.Sheet.{names, value_lines, bad_text, lines_judgement, values_judgement, names_judgement, judgement_within, judgement}
use Rattle.carried_values.{specs.Values.{cases_in}, proofs.Soundness.{Sound, sound_small, values_sound}}
use Rattle.carried_values.proofs.SoundCases.{SoundCases, all_lines_lem}
use Rattle.conversion.specs.Sheet.{sheet_of}
use Rattle.conversion.proofs.NamesLine.{some_names}
use Rattle.std.specs.Prelude.{Result, Ok}
use Rattle.refusal.specs.{declared.Refused.{Refused}}

-- ---- the line of names

abbrev form_names : CodeForm → List (List ℕ)
form_names form = map (λ c. c.name) (form_of form)

-- the columns of names that stand in the form's order
abbrev in_order : CodeForm → List ℕ
in_order form = count_from 1 (length (form_of form))

names_sound : (form : CodeForm) → wrong_name (form_of form) 1 (no_columns (form_of form)) (form_names form) ≡ 0
unfolding form_of columns former_columns name_index same no_columns fresh wrong_name
names_sound Present = refl
names_sound Former = refl

names_columns : (form : CodeForm) → columns_of (form_of form) (form_names form) ≡ in_order form
unfolding form_of columns former_columns name_index same no_columns columns_from columns_of count_from
names_columns Present = refl
names_columns Former = refl

names_plain : (form : CodeForm) → Names (form_names form)
unfolding form_of columns former_columns lacks all_lack
names_plain Present = record { some = omega arith; commas = refl; ends = refl }
names_plain Former = record { some = omega arith; commas = refl; ends = refl }

names_short : (form : CodeForm) → length (ended (parted (form_names form))) ≤ 125
unfolding form_of columns former_columns more_fields parted ended
names_short Present = omega arith
names_short Former = omega arith

-- ---- a value line

columns_from_lem : (v : List ℕ) (j n : ℕ) → map (λ c. get_or v (c - 1) 0) (count_from (suc j) n) ≡ map (λ i. get_or v i 0) (count_from j n)
unfolding count_from
columns_from_lem v j zero = refl
columns_from_lem v j (suc n) = let e : suc j - 1 ≡ j = omega arith in rw (e, columns_from_lem v (suc j) n)

in_order_lem : (v : List ℕ) → map (λ c. get_or v (c - 1) 0) (count_from 1 (length v)) ≡ v
in_order_lem v = columns_from_lem v 0 (length v) ∙ entries_from v 0 (length v) (omega arith)

form_right : (n c : ℕ) (v : List ℕ) → all_values v ≡ true → c + length v ≡ n + 1 → wrong_form n c (map decimal v) ≡ 0
unfolding wrong_form all_values
form_right n c [] h e = rw (lt-leb c n (omega arith))
form_right n c (x ∷ v) h e =
    let p = both (leb x 999999) (all_values v) h in
    rw (le-leb c n (omega arith), decimal_is_value x (leb-true x 999999 p.0)) (form_right n (suc c) v p.1 (omega arith))

module _ (form : CodeForm) (v : List ℕ) (s : Sound (form_of form) v) where
  some_values : 0 < length v
  some_values = omega (arith, s.count, some_names form)

  line_sound : wrong_form (length (form_of form)) 1 (fields_of (value_line v)) ≡ 0
  line_sound = rw (line_fields v some_values) (form_right (length (form_of form)) 1 v (sound_small form s) (omega (arith, s.count)))

  line_is : line_values (in_order form) (fields_of (value_line v)) ≡ v
  unfolding line_values
  line_is = rw (line_numbers v some_values (sound_small form s), ← s.count) (in_order_lem v)

  line_finding_lem : (earlier : List (List ℕ)) → repeats (form_of form) v earlier ≡ false
      → line_finding (form_of form) (in_order form) earlier (fields_of (value_line v)) ≡ line.Sound
  unfolding line_finding or_finding
  line_finding_lem earlier r = rw (line_sound, line_is, values_sound (in_order form) s, r)

lines_judged_lem : (form : CodeForm) (earlier vs : List (List ℕ)) (n : ℕ) (sound : Result ℕ Refused) → SoundCases (form_of form) earlier vs
    → lines_judgement (form_of form) (in_order form) earlier n sound (map value_line vs) ≡ sound
unfolding lines_judgement line_judgement
lines_judged_lem form earlier [] n sound s = refl
lines_judged_lem form earlier (v ∷ vs) n sound s =
    rw (line_finding_lem form v s.0 earlier s.1.0, line_is form v s.0) (lines_judged_lem form (v ∷ earlier) vs (suc n) sound s.1.1)

lines_cases : (form : CodeForm) (earlier vs : List (List ℕ)) → SoundCases (form_of form) earlier vs
    → map (λ l. line_values (in_order form) (fields_of l)) (map value_line vs) ≡ vs
lines_cases form earlier [] s = refl
lines_cases form earlier (v ∷ vs) s = rw (line_is form v s.0, lines_cases form (v ∷ earlier) vs s.1.1)

-- ---- the last byte

text_some : (l : List ℕ) (ls : List (List ℕ)) → 0 < length (text_of (l ∷ ls))
unfolding text_of ended
text_some l ls = rw (length-append, length-append) (omega arith)

last_byte : (l : List ℕ) (ls : List (List ℕ)) → get_or (text_of (l ∷ ls)) (length (text_of (l ∷ ls)) - 1) 0 ≡ 10
unfolding text_of ended
last_byte l [] = rw append-nil (rw length-append (ap (λ (k : ℕ). get_or (l ++ (10 ∷ [])) k 0) last ∙ get_or-append-add l (10 ∷ []) 0 0))
  where
    last : length l + 1 - 1 ≡ length l + 0
    last = omega arith
last_byte l (m ∷ ls) =
    rw length-append
    (ap (λ (k : ℕ). get_or ((l ++ (10 ∷ [])) ++ text_of (m ∷ ls)) k 0) last ∙ get_or-append-add (l ++ (10 ∷ [])) (text_of (m ∷ ls))
    (length (text_of (m ∷ ls)) - 1) 0 ∙ last_byte m ls)
  where
    last : length (l ++ (10 ∷ [])) + length (text_of (m ∷ ls)) - 1 ≡ length (l ++ (10 ∷ [])) + (length (text_of (m ∷ ls)) - 1)
    last = omega (arith, text_some m ls)

-- ---- the whole sheet

module _ (form : CodeForm) (vs : List (List ℕ)) (s : SoundCases (form_of form) [] vs) where
  abbrev text : List ℕ
  text = sheet_of (form_of form) vs

  lines_are : lines_of text ≡ parted (form_names form) ∷ map value_line vs
  unfolding sheet_of
  lines_are = sheet_lines (form_names form) vs (names_plain form).ends

  pub names_are : names text ≡ form_names form
  unfolding names sheet_of
  names_are = (sheet_back (form_names form) (length (form_of form)) vs (names_plain form) (some_names form) (all_lines_lem form [] vs s)).names_are

  values_are : value_lines text ≡ map value_line vs
  unfolding value_lines
  values_are = rw lines_are

  -- it cannot pass the most bytes of a sheet
  pub text_short : length vs ≤ most_lines → length text ≤ most_bytes
  unfolding sheet_of
  text_short h =
      let k : 7 * length (form_of form) * length vs ≤ 7 * name_count * most_lines = omega (arith, mul-le-mul (form_most form) h) in
      omega (arith, sheet_most (form_names form) (length (form_of form)) vs (some_names form) (all_lines_lem form [] vs s), names_short form)

  text_right : length vs ≤ most_lines → bad_text today text ≡ false
  unfolding bad_text sheet_of sheet_text
  text_right h =
      let l = last_byte (parted (form_names form)) (map value_line vs) in
      let k = text_some (parted (form_names form)) (map value_line vs) in
      rw (ne_eqb (length text) 0 (λ e. omega (arith, e, k)), le-ltb most_bytes (length text) (text_short h), eq-eqb _ 10 l)

  pub cases_back : cases_in (form_of form) text ≡ vs
  unfolding cases_in
  cases_back = rw (names_are, names_columns form, values_are) (lines_cases form [] vs s)

  pub accepted_back : 1 ≤ length vs → length vs ≤ most_lines → judgement (form_of form) text ≡ Ok (length vs)
  unfolding judgement judgement_within names_judgement values_judgement
  accepted_back some most =
      let n : length (map value_line vs) ≡ length vs = length-map vs value_line in
      rw (
        text_right most,
        names_are,
        names_sound form,
        names_columns form,
        values_are,
        n,
        ne_eqb (length vs) 0 (λ e. omega (arith, e)),
        le-ltb most_lines (length vs) most,
      )
      (lines_judged_lem form [] vs 2 (Ok (length vs)) s)
