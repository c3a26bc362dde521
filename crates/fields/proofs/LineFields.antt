-- A line of fields in parts: its first field, then a comma and a field for each index, then its byte 10.
use Prim.Native.Nat.{ℕ, suc, ◌+◌, ◌*◌, ◌≤◌, ◌<◌}
use mathlib.Core.{Path.{◌≡◌, refl, ap}, Bool.{Bool, true, false, cond}, List.{List, [], ◌∷◌, ◌++◌, append_assoc}}
use native.Mathlib.{Nat.{not-suc-le-zero}, Numerals.{add-one}, Omega.{arith}}
use lib.{Dec.{eqb}, IntN.{ℤ, pos, negsuc}, ListN.{length, get_or, drop, length-append, drop_of_length-le}, Seq.{drop-cons}}
use borrow.Author.Tests.{eq-eqb, ne_eqb}
use Rattle.text.specs.Text.{bytes}
use Rattle.writing.{specs.{Decimal.{signed}, Text.{more_fields, parted, ended}}, proofs.Signed.{signed_at_most}}
use Rattle.fields.specs.Fields.{word_of, field, fields_from, line_of}

-- fields that stand after others, and the byte 10
unfoldable pub fields_end : List (List ℕ) → List ℕ
fields_end fs = more_fields fs ++ (10 ∷ [])

pub end_more : (f : List ℕ) (fs : List (List ℕ)) → fields_end (f ∷ fs) ≡ 44 ∷ (f ++ fields_end fs)
unfolding fields_end more_fields
end_more f fs = rw append_assoc

pub end_first : (f : List ℕ) (fs : List (List ℕ)) → ended (parted (f ∷ fs)) ≡ f ++ fields_end fs
unfolding ended parted fields_end
end_first f fs = append_assoc f (more_fields fs) (10 ∷ [])

-- ---- the fields of a row: what follows those before index i

unfoldable pub line_from : ℕ → List ℤ → ℕ → List ℕ
line_from word row i = fields_end (fields_from word i (drop i row))

pub line_first : (word : ℕ) (row : List ℤ) → 0 < length row → line_of word row ≡ field word 0 (get_or row 0 (pos 0)) ++ line_from word row 1
unfolding line_of line_from fields_from
line_first word [] h = absurd (not-suc-le-zero h)
line_first word (z ∷ zs) h = end_first (field word 0 z) (fields_from word 1 zs)

pub line_more : (word : ℕ) (row : List ℤ) (i : ℕ) → i < length row
    → line_from word row i ≡ 44 ∷ (field word i (get_or row i (pos 0)) ++ line_from word row (i + 1))
unfolding line_from fields_from
line_more word row i h =
    rw (drop-cons row i (pos 0) h, add-one) (end_more (field word i (get_or row i (pos 0))) (fields_from word (suc i) (drop (suc i) row)))

pub line_last : (word : ℕ) (row : List ℤ) (i : ℕ) → length row ≤ i → line_from word row i ≡ 10 ∷ []
unfolding line_from fields_from fields_end more_fields
line_last word row i h = rw (drop_of_length-le row h)

-- ---- how long a line is

word_most : (z : ℤ) → length (word_of z) ≤ 21
unfolding word_of
word_most (pos n) = go (eqb n 1) (eqb n 2)
  where
    go : (a b : Bool) → length (cond a (bytes "safe") (cond b (bytes "unsafe") (bytes "undecided"))) ≤ 21
    go true b = omega arith
    go false true = omega arith
    go false false = omega arith
word_most (negsuc n) = omega arith

pub field_most : (word i : ℕ) (z : ℤ) → length (field word i z) ≤ 21
unfolding field
field_most word i z = go (eqb i word)
  where
    go : (b : Bool) → length (cond b (word_of z) (signed z)) ≤ 21
    go true = word_most z
    go false = signed_at_most z

more_most : (word i : ℕ) (zs : List ℤ) → length (fields_end (fields_from word i zs)) ≤ 22 * length zs + 1
unfolding fields_end fields_from more_fields
more_most word i [] = omega arith
more_most word i (z ∷ zs) =
    omega (
      arith,
      ap length (end_more (field word i z) (fields_from word (suc i) zs)),
      length-append (field word i z) (fields_end (fields_from word (suc i) zs)),
      field_most word i z,
      more_most word (suc i) zs,
    )

-- a line of some numbers has at most 22 bytes for each
pub line_most : (word : ℕ) (row : List ℤ) → 0 < length row → length (line_of word row) ≤ 22 * length row
unfolding line_of fields_from
line_most word [] h = absurd (not-suc-le-zero h)
line_most word (z ∷ zs) h =
    omega (
      arith,
      ap length (end_first (field word 0 z) (fields_from word 1 zs)),
      length-append (field word 0 z) (fields_end (fields_from word 1 zs)),
      field_most word 0 z,
      more_most word 1 zs,
    )

-- ---- the field of a number

pub field_word : {word i : ℕ} (z : ℤ) → i ≡ word → field word i z ≡ word_of z
unfolding field
field_word {word} {i} z e = rw (eq-eqb i word e)

pub field_number : {word i : ℕ} (z : ℤ) → (i ≡ word → ⊥) → field word i z ≡ signed z
unfolding field
field_number {word} {i} z e = rw (ne_eqb i word e)

pub end_none : fields_end [] ≡ 10 ∷ []
unfolding fields_end more_fields
end_none = refl
