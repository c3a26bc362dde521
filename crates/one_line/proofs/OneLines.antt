-- The reading of a sheet of one value line, and the answer to it: specs/Reading.antt and Answer.antt.
use Prim.Native.Nat.{ℕ, ◌-◌, ◌≤◌, ◌<◌}
use mathlib.Core.{Path.{◌≡◌, refl, sym, ap, ◌∙◌}, Bool.{true, false}, List.{List, [], ◌∷◌}}
use native.Mathlib.Omega.{arith}
use lib.ListN.{length, take, drop, length-drop}
use borrow.Author.Tests.{ne_eqb, lt-ltb}
use Rattle.std.specs.Prelude.{Result, Ok, Err}
use Rattle.text.specs.{Text.{index_of, lines_of, fields_of}, Parts.{Skipped}}
use Rattle.text.proofs.{Clash.{clash}, FieldTurns.{part_end}, Lines.{lines_next, lines_none}, LineTurns.{line_turn}}
use Rattle.case.specs.{declared.Case.{Case}, Case.{case_of}, Columns.{columns, name_count, name_count_lem}, Bounds.{Placed}, Order.{Ordered}}
use Rattle.header.{specs.Parts.{Header}, proofs.HeaderReading.{names_right, names_wrong}}
use Rattle.line.specs.{Line.{wrong_form, line_case}, Parts.{LineValues}}
use Rattle.line.proofs.{Arranging.{arranged}, ValuesReading.{form_right, form_wrong}}
use Rattle.judgement.specs.{Limits.{today}, Sheet.{names, bad_text}}
use Rattle.judgement.specs.Refusal.{text_refused, name_refused, no_line_refused, many_lines_refused, line_judgement}
use Rattle.judgement.proofs.Whole.{names_are, values_are}
use Rattle.yards.specs.{Fewest.{FewestAnswered}}
use Rattle.one_line.specs.Sheet.{fields_judged, values_judged, names_judged, sheet_judged, case_in}
use Rattle.one_line.specs.{Reading.{ValuesRead, SheetRead}, Answer.{answer_by, sheet_answer, SheetFewest}}
use Rattle.std.specs.Prelude.{Result, Ok}
use Rattle.refusal.specs.{declared.Refused.{Refused}, Refused.{refuse}}
use Rattle.yards.specs.declared.FewestLines.{FewestLines}

no_refusal : {A B : Type 0} {x : A} {why : Refused} → Err why ≡ Ok x → B
no_refusal q = clash cc

-- ---- how many lines a text has, by where its first line ends

module _ (s : List ℕ) (some : length s ≡ 0 → ⊥) (e r : ℕ) (ends : e ≡ index_of 10 s) (k : Skipped e (length s) r) where
  lines_are : lines_of s ≡ take e s ∷ lines_of (take (length s - r) (drop r s))
  lines_are = line_turn s e r (omega (arith, some)) ends k

  two_lines : r < length s → 1 < length (lines_of s)
  two_lines h =
      let next = lines_next (drop r s) (omega (arith, length-drop r s)) in
      omega (arith, ap length lines_are, ap (λ t. length (lines_of t)) (part_end s r), ap length next)

  one_line : length s ≤ r → lines_of s ≡ take e s ∷ []
  one_line h =
      lines_are ∙ ap (λ (ls : List (List ℕ)). take e s ∷ ls) (rw (part_end s r) (lines_none (drop r s) (omega (arith, length-drop r s))))

-- ---- the value lines

values_refused : {lines : List (List ℕ)} {order values : List ℕ} {number line column : ℕ} → length values ≡ name_count
    → refuse number line column ≡ values_judged lines → ValuesRead lines order values (refuse number line column)
values_refused count q = record { answer_is = q; count = count; line_read = no_refusal }

module _ (s order : List ℕ) {values : List ℕ} (count : length values ≡ name_count) where
  pub no_line : length s ≡ 0 → ValuesRead (lines_of s) order values (refuse 4 2 0)
  unfolding values_judged no_line_refused
  no_line z = values_refused count (rw (lines_none s (omega arith)))

  module _ (some : length s ≡ 0 → ⊥) {e r : ℕ} (ends : e ≡ index_of 10 s) (k : Skipped e (length s) r) where
    pub more_lines : r < length s → ValuesRead (lines_of s) order values (refuse 4 3 0)
    unfolding values_judged many_lines_refused
    more_lines h =
        let two = two_lines s some e r ends k h in
        values_refused count (rw (ne_eqb (length (lines_of s)) 0 (λ z. omega (arith, two)), lt-ltb 1 (length (lines_of s)) two))

    module _ (h : length s ≤ r) {found : Result Unit ℕ} (v : LineValues name_count order (take e s) found values) where
      fields_are : values_judged (lines_of s) ≡ fields_judged (wrong_form name_count 1 (fields_of (take e s)))
      unfolding values_judged
      fields_are = rw (one_line s some e r ends k h)

      pub wrong_line : {c : ℕ} → found ≡ Err c → ValuesRead (lines_of s) order values (refuse 3 2 c)
      unfolding fields_judged line_judgement
      wrong_line {c} z = let w = form_wrong v z in values_refused count (rw (fields_are, w.is, ne_eqb c 0 w.some))

      pub right_line : found ≡ Ok tt → ValuesRead (lines_of s) order values (Ok tt)
      unfolding fields_judged line_judgement
      right_line z =
          record {
            answer_is = rw (fields_are, form_right v z);
            count = count;
            line_read = λ q. rw (one_line s some e r ends k h) (rw z at v);
          }

-- ---- the sheet

pub wrong_text : (s : List ℕ) {values : List ℕ} → length values ≡ name_count → bad_text today s ≡ true → SheetRead s values (refuse 1 0 0)
unfolding sheet_judged text_refused
wrong_text s count b = record { answer_is = rw b; count = count; values_are = no_refusal }

module _ (s : List ℕ) {at order : List ℕ} {found : Result Unit ℕ} {e : ℕ} (b : bad_text today s ≡ false) (ends : e ≡ index_of 10 s)
    (h : Header columns (take e s) found at order) where
  names_of : names s ≡ fields_of (take e s)
  names_of = names_are s e b ends

  pub wrong_names : {values : List ℕ} {c : ℕ} → length values ≡ name_count → found ≡ Err c → SheetRead s values (refuse 2 1 c)
  unfolding sheet_judged names_judged name_refused
  wrong_names {c = c} count z =
      let w = names_wrong h z in
      record { answer_is = rw (b, names_of, w.is, ne_eqb c 0 w.some); count = count; values_are = no_refusal }

  pub right_names : {values : List ℕ} {r : ℕ} {j : Result (Unit {0}) Refused} → found ≡ Ok tt → Skipped e (length s) r
      → ValuesRead (lines_of (take (length s - r) (drop r s))) order values j → SheetRead s values j
  unfolding sheet_judged names_judged
  right_names {values} {r} z k v =
      let later = values_are s e r b ends k in
      let placed : Placed name_count at = rw name_count_lem at (h.placed z) in
      let ordered : Ordered name_count at order = rw name_count_lem at (h.ordered z) in
      record {
        answer_is = v.answer_is ∙ rw (b, names_of, names_right h z, later);
        count = v.count;
        values_are = λ q. rw (names_of, later, ← h.at_is z) (arranged placed ordered (v.line_read q) refl);
      }

-- ---- the answer

module _ (s : List ℕ) {side : ℕ} {values : List ℕ} {j : Result (Unit {0}) Refused} (read : SheetRead s values j) where
  pub sheet_refused : {why : Refused} → j ≡ Err why → SheetFewest s side (Err why)
  unfolding sheet_answer answer_by
  sheet_refused q =
      record { answer_is = rw (← read.answer_is, q); searched = λ e. no_refusal (sym q ∙ read.answer_is ∙ e) }

  pub sheet_searched : {c : Case} {r : Result FewestLines Refused} → j ≡ Ok tt → c ≡ case_of values → FewestAnswered c side r
      → SheetFewest s side r
  unfolding sheet_answer answer_by case_in line_case
  sheet_searched {r = r} q c a =
      let own : FewestAnswered (case_in s) side r = rw (← read.values_are q, ← c) a in
      record { answer_is = own.answer ∙ rw (← read.answer_is, q); searched = λ e. own }
