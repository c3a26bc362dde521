-- The line of names of a form, put name by name.
use Prim.Native.Nat.{ℕ, zero, suc, ◌+◌, ◌≤◌, ◌<◌}
use mathlib.Core.{Path.{◌≡◌, refl, ap, subst, ◌∙◌}, Bool.{cond}, List.{List, [], ◌∷◌, ◌++◌, map}}
use native.Mathlib.{Numerals.{add-one}, Omega.{arith}}
use lib.{Dec.{ltb, lit≤, leb-suc-zero, leb-suc-suc}, ListN.{length, take, drop, set, drop_of_length-le, length-append}}
use lib.Seq.{drop-cons, take-append_seam}
use borrow.Author.Tests.{le-leb}
use Rattle.tables.specs.Parts.{parts_of}
use Rattle.case.specs.declared.Form.{Form as CodeForm, TheVariants.{Present, Former}}
use Rattle.case.specs.{Columns.{Form, columns, former_columns, name_count_lem, former_name_count_lem}, Parts.{no_column, form_of}}
use Rattle.header.specs.Parts.{name_at}
use Rattle.std.specs.Prelude.{Option}
use Rattle.writing.specs.{Text.{more_fields, parted, ended, text_of, value_line}, Put.{Put, WrittenFirst}}
use Rattle.writing.proofs.{Filling.{Filling, filling_start, text_room_lem, text_step, byte_room, byte_step, filling_end}, Sheet.{sheet_parts}}
use Rattle.conversion.specs.Sheet.{names_line, sheet_of}

-- ---- the names one after the other

-- the byte before the names of some columns, or after the last
parting : Form → ℕ
parting [] = 10
parting (c ∷ cs) = 44

parting_is : (cs : Form) (k : ℕ) → parting (drop k cs) ≡ cond (ltb k (length cs)) 44 10
unfolding parting
parting_is [] zero = refl
parting_is [] (suc k) = rw (leb-suc-zero (suc k))
parting_is (c ∷ cs) zero = rw (le-leb 1 (suc (length cs)) (omega arith))
parting_is (c ∷ cs) (suc k) = rw (leb-suc-suc (suc k) (length cs)) (parting_is cs k)

-- the names of some columns, each with the byte after it
pub names_from : Form → List ℕ
names_from [] = []
names_from (c ∷ cs) = c.name ++ (parting cs ∷ names_from cs)

names_from_lem : (form : CodeForm) → names_line (form_of form) ≡ names_from (form_of form)
unfolding form_of columns former_columns parting names_from names_line more_fields parted ended
names_from_lem Present = refl
names_from_lem Former = refl

next_name : (form : Form) (k : ℕ) → k < length form
    → names_from (drop k form) ≡ name_at form k ++ (cond (ltb (k + 1) (length form)) 44 10 ∷ names_from (drop (k + 1) form))
unfolding names_from name_at
next_name form k h = rw (add-one, drop-cons form k no_column h, parting_is form (suc k))

-- the first k names are put, and the bytes after them
pub record NamesAt (form : Form) (before line : List ℕ) (p k : ℕ) : Type 0 where
  pub filling : Filling before 0 (names_line form) line p (names_from (drop k form))

pub names_start : (form : CodeForm) (line : List ℕ) → length (names_line (form_of form)) ≤ length line → NamesAt (form_of form) line line 0 0
names_start form line h =
    record {
      filling =
          subst (λ (t : List ℕ). Filling line 0 (names_line (form_of form)) line 0 t) (names_from_lem form)
          (filling_start line 0 (names_line (form_of form)) (omega arith));
    }

module _ {form : Form} {before line : List ℕ} {p k : ℕ} (a : NamesAt form before line p k) (h : k < length form) where
  -- what is left after the next name
  rest : List ℕ
  rest = cond (ltb (k + 1) (length form)) 44 10 ∷ names_from (drop (k + 1) form)

  pub name_room : p + length (name_at form k) ≤ length line
  unfolding rest
  name_room = text_room_lem a.filling (name_at form k) rest (next_name form k h)

  module _ {after : List ℕ} {q : ℕ} (put : Put line p (name_at form k) after q) where
    named : Filling before 0 (names_line form) after q rest
    unfolding rest
    named = text_step a.filling (name_at form k) rest (next_name form k h) put

    pub parting_room : q < length after
    unfolding rest
    parting_room = byte_room named _ _ refl

    pub named_size : length after ≡ length before
    named_size = named.size

    pub name_step : {n x : ℕ} → n ≡ length form → x ≡ cond (ltb (k + 1) n) 44 10 → NamesAt form before (set after q x) (q + 1) (k + 1)
    unfolding rest
    name_step e f = rw (f, e) (record { filling = byte_step named _ _ refl })

pub names_end : {form : Form} {before line : List ℕ} {p k : ℕ} → NamesAt form before line p k → length form ≤ k
    → Put before 0 (names_line form) line p
unfolding names_from
names_end {form} {k = k} a h = filling_end a.filling (ap names_from (drop_of_length-le form h))

-- ---- the line in its array

pub names_most : (form : CodeForm) → length (names_line (form_of form)) ≤ 125
unfolding form_of columns former_columns names_line more_fields parted ended
names_most Present = lit≤ tt
names_most Former = lit≤ tt

pub names_put : {before line t : List ℕ} {m : ℕ} → Put before 0 t line m → take m line ≡ t
names_put {before} {t = t} {m} p =
    let e : m ≡ length t = omega (arith, p.next) in
    rw (p.holds, e) (take-append_seam t _)

pub put_within : {before line t : List ℕ} {m : ℕ} → Put before 0 t line m → m ≤ length line
put_within {before} {t = t} {m} p = omega (arith, p.next, ap length p.holds, length-append t (drop m before))

-- ---- the sheet

sheet_text_lem : (form : CodeForm) (vs : List (List ℕ)) → names_line (form_of form) ++ text_of (map value_line vs) ≡ sheet_of (form_of form) vs
unfolding names_line sheet_of
sheet_text_lem form vs = sheet_parts (map (λ c. c.name) (form_of form)) vs

-- what was written is the sheet of the lines, where the line of names and the count of names have other names
pub form_written : {k : ℕ} {line before after : List ℕ} {r : Option ℕ} (form : CodeForm) (n : ℕ) (values : List ℕ) → k ≡ length (form_of form)
    → line ≡ names_line (form_of form) → WrittenFirst (line ++ text_of (map value_line (parts_of k n values))) before after r
    → WrittenFirst (sheet_of (form_of form) (parts_of (length (form_of form)) n values)) before after r
form_written {k} {line} {before} {after} {r} form n values e l w =
    subst (λ (t : List ℕ). WrittenFirst t before after r)
    (ap (λ (t : List ℕ). t ++ text_of (map value_line (parts_of k n values))) l ∙ sheet_text_lem form (parts_of k n values)
    ∙ ap (λ (j : ℕ). sheet_of (form_of form) (parts_of j n values)) e) w

pub some_names : (form : CodeForm) → 0 < length (form_of form)
unfolding form_of
some_names Present = omega (arith, name_count_lem)
some_names Former = omega (arith, former_name_count_lem)
