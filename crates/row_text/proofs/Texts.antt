-- The fields and the names of each program that prints rows are what the loop over a table's rows writes.
use Prim.Native.Nat.{ℕ, suc, ◌+◌, ◌≤◌, ◌<◌}
use mathlib.Core.{Path.{◌≡◌, refl, ap}, List.{List, [], ◌∷◌, ◌++◌, map}}
use native.Mathlib.Omega.{arith}
use lib.{IntN.{ℤ, pos}, ListN.{length}}
use borrow.Author.Tests.{ne_eqb}
use Rattle.text.specs.Text.{bytes}
use Rattle.writing.specs.{Decimal.{signed}, Text.{more_fields, parted, ended, text_of}}
use Rattle.decision.specs.{declared.Verdict.{TheVariants.{Safe, Unsafe, Undecided}, Verdict}, Verdict.{verdict_number}}
use Rattle.row.specs.{declared.Row.{Row}, Row.{numbers}}
use Rattle.margin.specs.Margin.{margins_of}
use Rattle.fields.specs.{Listed.{listed}, Fields.{word_of, field, fields_from}}
use Rattle.row_text.specs.{declared.Shown.{Shown}, Verdict.{word, verdict_names, verdict_fields}, Rows.{row_names, row_fields}}
use Rattle.row_text.specs.{Margins.{margin_names, two_margins, margin_fields}, Shown.{margin_numbers, shown_fields, shown_line, lines_after}}
use Rattle.row_text.specs.declared.Shown.TheVariants as shown

-- ---- a text of names and fields

module _ {A : Type 0} (what : Shown) (f : A → List ℤ) (fields : A → List (List ℕ))
    (same : (a : A) → shown_fields what (f a) ≡ fields a) where
  lines_same : (xs : List A) → map (shown_line what) (map f xs) ≡ map parted (map fields xs)
  unfolding shown_line
  lines_same [] = refl
  lines_same (a ∷ xs) = rw (same a) (ap (λ (ls : List (List ℕ)). parted (fields a) ∷ ls) (lines_same xs))

  pub listed_same : (names : List (List ℕ)) (xs : List A) → lines_after (ended (parted names)) what (map f xs) ≡ listed names (map fields xs)
  unfolding lines_after listed text_of
  listed_same names xs = ap (λ (ls : List (List ℕ)). ended (parted names) ++ text_of ls) (lines_same xs)

-- ---- the fields of a row

-- no index of some numbers is that of a word
signed_from : (word i : ℕ) (zs : List ℤ) → ((j : ℕ) → i ≤ j → j < i + length zs → j ≡ word → ⊥) → fields_from word i zs ≡ map signed zs
unfolding fields_from field
signed_from word i [] h = refl
signed_from word i (z ∷ zs) h =
    rw (ne_eqb i word (h i (omega arith) (omega arith)), signed_from word (suc i) zs (λ j a b. h j (omega arith) (omega arith)))

pub numbers_fields : (zs : List ℤ) → shown_fields shown.Numbers zs ≡ map signed zs
unfolding shown_fields
numbers_fields zs = signed_from (length zs) 0 zs (λ j a b e. omega arith)

word_is : (v : Verdict) → word_of (pos (verdict_number v)) ≡ word v
unfolding word_of verdict_number word
word_is Safe = refl
word_is Unsafe = refl
word_is Undecided = refl

pub verdict_fields_lem : (r : Row) → shown_fields shown.Verdict (numbers r) ≡ verdict_fields r
unfolding shown_fields fields_from field numbers verdict_fields
verdict_fields_lem r = ap (λ (w : List ℕ). signed r.station ∷ signed r.season ∷ w ∷ signed r.size ∷ []) (word_is r.verdict)

pub row_fields_lem : (r : Row) → shown_fields shown.Numbers (numbers r) ≡ row_fields r
unfolding row_fields
row_fields_lem r = numbers_fields (numbers r)

pub margin_fields_lem : (r : Row) → shown_fields shown.Margins (numbers r) ≡ margin_fields r
unfolding shown_fields fields_from field numbers margin_numbers margin_fields
margin_fields_lem r =
    let margins : List ℤ = two_margins (margins_of (numbers r)) in
    rw (word_is r.verdict, signed_from 2 3 margins (λ j a b e. omega arith))

-- ---- the lines of names

abbrev pub verdict_line : List ℕ
verdict_line = bytes "station,season,verdict,kcmil\n"

abbrev pub row_line : List ℕ
row_line =
    bytes
    "station,season,verdict,size_kcmil,grid_current_lower_uA,grid_current_upper_uA,factor_lower_billionths,factor_upper_billionths,tolerable_touch_lower_mV,tolerable_touch_upper_mV,tolerable_step_lower_mV,tolerable_step_upper_mV,mesh_lower_mV,mesh_upper_mV,step_lower_mV,step_upper_mV,resistance_lower_uohm,resistance_upper_uohm,rise_lower_mV,rise_upper_mV\n"

abbrev pub margin_line : List ℕ
margin_line = bytes "station,season,verdict,mesh_excess_per_mille,step_excess_per_mille\n"

pub verdict_names_lem : ended (parted verdict_names) ≡ verdict_line
unfolding more_fields parted ended verdict_names
verdict_names_lem = refl

pub row_names_lem : ended (parted row_names) ≡ row_line
unfolding more_fields parted ended row_names
row_names_lem = refl

pub margin_names_lem : ended (parted margin_names) ≡ margin_line
unfolding more_fields parted ended margin_names
margin_names_lem = refl
