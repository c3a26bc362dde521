-- A turn of a loop over the fields of a line: rest holds the fields that are left, and the first of them ends at e.
use Rattle.std.proofs.Common.{ℕ, ◌+◌, ◌-◌, ◌<◌, ◌≤◌}
use mathlib.Core.{Path.{◌≡◌, sym, ap, ◌∙◌}, Logic.{⊎_elim}, List.{List, [], ◌∷◌}}
use native.Mathlib.{Numerals.{add-one}, Nat.{eq-or-lt_of_le}, Omega.{arith}}
use lib.{ListN.{length, take, drop, length-drop}, Seq.{take_all, length-take-le, drop-drop}}
use Rattle.text.specs.Text.{index_of, fields_of}
use Rattle.text.proofs.{Searching.{index_within}, Fields.{fields_more, fields_one}}

-- a part to the end
pub part_end : (l : List ℕ) (k : ℕ) → take (length l - k) (drop k l) ≡ drop k l
part_end l k = take_all (length l - k) (drop k l) (omega (arith, length-drop k l))

-- the part before the byte b
pub part_length : (b e : ℕ) (rest : List ℕ) → e ≡ index_of b rest → e ≡ length (take e rest)
part_length b e rest ends = sym (length-take-le e rest (omega (arith, index_within b rest)))

module _ (rest : List ℕ) (e : ℕ) (ends : e ≡ index_of 44 rest) where
  pub field_last : length rest ≤ e → fields_of rest ≡ take e rest ∷ []
  field_last h = fields_one rest (rw (← ends) h) ∙ ap (λ (t : List ℕ). t ∷ []) (sym (take_all e rest h))

  pub field_next : e < length rest → fields_of rest ≡ take e rest ∷ fields_of (take (length rest - (e + 1)) (drop (e + 1) rest))
  field_next h = rw (part_end rest (e + 1), add-one, ends) (fields_more rest (rw (← ends) h))

  pub field_first : fields_of rest ≡ take e rest ∷ drop 1 (fields_of rest)
  field_first =
      ⊎_elim (λ h. rw (field_last (omega arith))) (λ h. rw (field_next (omega arith)))
      (eq-or-lt_of_le (index_within 44 rest))

-- the same where the fields that are left start at an index of the line
pub field_after : (line : List ℕ) (next e : ℕ) → e ≡ index_of 44 (drop next line) → e < length (drop next line)
    → fields_of (drop next line) ≡ take e (drop next line) ∷ fields_of (drop (next + (e + 1)) line)
field_after line next e ends h =
    let rest = drop next line in
    field_next rest e ends h ∙ ap (λ (t : List ℕ). take e rest ∷ fields_of t) (part_end rest (e + 1) ∙ drop-drop (e + 1) next line)
