-- The table of names as the code has it: each place spells the bytes of the name there, and their number.
use Prim.Native.Nat.{ℕ, zero, suc, ◌-◌, ◌≤◌, ◌<◌}
use mathlib.Core.{Path.{◌≡◌, refl, subst}, Bool.{Bool, true, false, ◌&&◌}, List.{[], ◌∷◌, map}}
use native.Mathlib.Omega.{arith}
use lib.{Dec.{leb}, ListN.{length, get_or, replicate, length-append}, Seq.{take-append_seam}}
use borrow.Author.Tests.{leb-true}
use Rattle.text.proofs.Clash.{clash}
use Rattle.case.specs.{Columns.{Column, Form, columns, all_columns, all_count, all_count_lem}, declared.Form.{Form as CodeForm}}
use Rattle.case.specs.Parts.{form_of, SameColumn}
use Rattle.header.specs.{declared.names.Spelling.{Spelling}, Parts.{Spells, in_code, name_at}}

spells : (c : Column) → Spells (in_code c).0 (in_code c).1 c.name
unfolding in_code
spells c = record { fits = omega (arith, length-append c.name (replicate (7 - length c.name) 32)); is = take-append_seam c.name _ }

entry_of_lem : (cs : Form) (i : ℕ) (d : Spelling) → i < length cs → Spells (get_or (map in_code cs) i d).0 (get_or (map in_code cs) i d).1 (name_at cs i)
unfolding name_at
entry_of_lem [] i d h = absurd (omega arith)
entry_of_lem (c ∷ cs) zero d h = spells c
entry_of_lem (c ∷ cs) (suc i) d h = entry_of_lem cs i d (omega arith)

pub table_entry : (i : ℕ) (d : Spelling) → i < all_count
    → Spells (get_or (map in_code all_columns) i d).0 (get_or (map in_code all_columns) i d).1 (name_at all_columns i)
table_entry i d h = entry_of_lem all_columns i d (omega (arith, all_count_lem))

-- the name with index k of a form, by its place
pub place_spells : {form : CodeForm} {k i : ℕ} (d : Spelling) → SameColumn form k i
    → Spells (get_or (map in_code all_columns) i d).0 (get_or (map in_code all_columns) i d).1 (name_at (form_of form) k)
unfolding name_at form_of
place_spells {i = i} d s =
    subst (λ (c : Column). Spells (get_or (map in_code all_columns) i d).0 (get_or (map in_code all_columns) i d).1 c.name) s.is
    (table_entry i d s.within)

-- ---- no name has more than seven bytes

all_short : Form → Bool
all_short [] = true
all_short (c ∷ cs) = leb (length c.name) 7 && all_short cs

both : (a b : Bool) → a && b ≡ true → (a ≡ true) × (b ≡ true)
both true b e = (refl, e)
both false b e = clash cc

short_at : (cs : Form) (i : ℕ) (d : Spelling) → all_short cs ≡ true → i < length cs → (get_or (map in_code cs) i d).1 ≤ 7
unfolding in_code all_short
short_at [] i d e h = absurd (omega arith)
short_at (c ∷ cs) zero d e h = leb-true (length c.name) 7 (both _ _ e).0
short_at (c ∷ cs) (suc i) d e h = short_at cs i d (both _ _ e).1 (omega arith)

table_short : all_short all_columns ≡ true
unfolding all_short all_columns columns
table_short = refl

pub place_short : {form : CodeForm} {k i : ℕ} (d : Spelling) → SameColumn form k i → (get_or (map in_code all_columns) i d).1 ≤ 7
place_short {i = i} d s = short_at all_columns i d table_short (omega (arith, s.within, all_count_lem))
