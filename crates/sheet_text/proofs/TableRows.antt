-- The parts of a filled table are the numbers of the sheet's rows.
use Prim.Native.Nat.{ℕ, zero, suc, ◌<◌}
use mathlib.Core.{Path.{◌≡◌, refl, sym, ap, ◌∙◌}, List.{List, [], ◌∷◌, map}}
use native.Mathlib.Omega.{arith}
use lib.{IntN.{ℤ}, ListN.{length, get_or, length-map}}
use Rattle.tables.{specs.Parts.{part_at, parts_of}, proofs.Parts.{parts_are}}
use Rattle.case.specs.{declared.Case.{Case}, Case.{case_of}}
use Rattle.row.specs.{Row.{numbers, row_length}, Ends.{row_of}}
use Rattle.table_rows.specs.Rows.{Filled}

-- the numbers of the rows of some cases
abbrev rows_of : List Case → List (List ℤ)
rows_of cs = map numbers (map row_of cs)

rows_length : (cs : List Case) → length (rows_of cs) ≡ length cs
rows_length cs = length-map (map row_of cs) numbers ∙ length-map cs row_of

row_at : (cs : List Case) (i : ℕ) → i < length cs → get_or (rows_of cs) i [] ≡ numbers (row_of (get_or cs i (case_of [])))
row_at [] i h = absurd (omega arith)
row_at (c ∷ cs) zero h = refl
row_at (c ∷ cs) (suc i) h = row_at cs i (omega arith)

pub table_rows : (cs : List Case) {before after : List ℤ} → Filled cs before after → parts_of row_length (length cs) after ≡ rows_of cs
table_rows cs {before} {after} f =
    ap (λ (k : ℕ). parts_of row_length k after) (sym (rows_length cs)) ∙ parts_are row_length after (rows_of cs) each
  where
    each : (i : ℕ) → i < length (rows_of cs) → part_at row_length after i ≡ get_or (rows_of cs) i []
    each i h = let k : i < length cs = rw (rows_length cs) at h in (f.parts i k).is ∙ sym (row_at cs i k)
