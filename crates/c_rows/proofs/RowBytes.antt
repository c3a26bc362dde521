-- The bytes of one row, put in their place: they are read back as the row's numbers.
use Prim.Native.Nat.{ℕ, ◌+◌, ◌-◌, ◌*◌, ◌≤◌}
use mathlib.Core.{Path.{◌≡◌, refl, sym, ap, ◌∙◌}, List.{List, [], ◌∷◌}}
use native.Mathlib.Omega.{arith}
use lib.{IntN.{ℤ}, ListN.{length, length-append}}
use borrow.Rule.Slice.PartMut.{put_mid}
use Rattle.tables.proofs.Writing.{put_written}
use Rattle.case.specs.{declared.Case.{Case}, Bounds.{Bounds}}
use Rattle.row.{specs.{Row.{numbers, row_length_lem}, Ends.{row_of}}, proofs.Right.{right_row}}
use Rattle.c_bytes.{specs.Bytes.{number_bytes, bytes_of, bytes_of_all, numbers_of}, proofs.Reading.{bytes_length}}
use Rattle.c_rows.specs.{Rows.{row_bytes, RowBytes}, Put.{Put, RowPut}}

bytes_all_length : (zs : List ℤ) → length (bytes_of_all zs) ≡ number_bytes * length zs
unfolding bytes_of_all
bytes_all_length [] = refl
bytes_all_length (z ∷ zs) = rw (length-append (bytes_of z) (bytes_of_all zs)) (omega (arith, bytes_length z, bytes_all_length zs))

-- the numbers of the row of a case, put in the place of row i
pub row_put : (i : ℕ) (t : List ℕ) {part : List ℕ} (c : Case) {zs : List ℤ} → row_bytes * i + row_bytes ≤ length t → Put zs part
    → zs ≡ numbers (row_of c) → RowPut c i t (put_mid (row_bytes * i) (row_bytes * i + row_bytes - row_bytes * i) t part)
row_put i t c {zs} room p e =
    rw (p.bytes, e) (record { written = put_written row_bytes i t (bytes_of_all row) room size; read = rw (e, row_length_lem (row_of c)) at back })
  where
    row : List ℤ
    row = numbers (row_of c)

    size : length (bytes_of_all row) ≡ row_bytes
    size = omega (arith, bytes_all_length row, row_length_lem (row_of c))

    back : numbers_of (length zs) (bytes_of_all zs) ≡ zs
    back = ap (numbers_of (length zs)) (sym p.bytes) ∙ p.read

-- such bytes are the row of the case
pub row_right : {c : Case} {i : ℕ} {t u : List ℕ} → RowPut c i t u → Bounds c → RowBytes c (bytes_of_all (numbers (row_of c)))
row_right p b = record { is = refl; read = record { is = p.read; right = right_row b } }
