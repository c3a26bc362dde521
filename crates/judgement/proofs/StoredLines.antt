-- The values of an accepted sheet's lines as the parts of their store.
use Prim.Native.Nat.{ℕ, zero, suc, ◌<◌}
use mathlib.Core.{Path.{◌≡◌, refl, sym, ap, ◌∙◌}, List.{List, [], ◌∷◌, map}}
use native.Mathlib.Omega.{arith}
use lib.ListN.{length, get_or, length-map}
use Rattle.text.specs.Text.{fields_of}
use Rattle.tables.{specs.Parts.{parts_of}, proofs.Parts.{parts_are}}
use Rattle.case.specs.Columns.{Form}
use Rattle.header.specs.Header.{columns_of}
use Rattle.line.specs.Line.{line_values}
use Rattle.judgement.specs.{Sheet.{names, value_lines}, Accepted.{Accepted}, Read.{Stored}}

pub map_at : (f : List ℕ → List ℕ) (ls : List (List ℕ)) (i : ℕ) → i < length ls → get_or (map f ls) i [] ≡ f (get_or ls i [])
map_at f [] i h = absurd (omega arith)
map_at f (l ∷ ls) zero h = refl
map_at f (l ∷ ls) (suc i) h = map_at f ls i (omega arith)

-- the values of each line, in the order of the form
abbrev pub lines_values : Form → List ℕ → List (List ℕ)
lines_values form s = map (λ line. line_values (columns_of form (names s)) (fields_of line)) (value_lines s)

pub values_count : {form : Form} {s : List ℕ} {n : ℕ} → Accepted form s n → length (lines_values form s) ≡ n
values_count {form} {s} a = length-map (value_lines s) (λ line. line_values (columns_of form (names s)) (fields_of line)) ∙ sym a.count

pub stored_parts : {form : Form} {s : List ℕ} {n : ℕ} (values : List ℕ) → Accepted form s n
    → Stored form (columns_of form (names s)) (value_lines s) values → parts_of (length form) n values ≡ lines_values form s
stored_parts {form} {s} {n} values a stored =
    let f : List ℕ → List ℕ = λ line. line_values (columns_of form (names s)) (fields_of line) in
    let k = values_count a in
    ap (λ (m : ℕ). parts_of (length form) m values) (sym k)
    ∙ parts_are (length form) values (lines_values form s)
    (λ i h. stored i (omega (arith, k, a.count)) ∙ sym (map_at f (value_lines s) i (omega (arith, k, a.count))))
