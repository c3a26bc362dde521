-- The places of a form's columns among those of both forms: what one test over the whole table says of each place.
use Prim.Native.Nat.{ℕ, zero, suc, ◌<◌}
use mathlib.Core.{Path.{◌≡◌, refl}, Bool.{Bool, true, ◌&&◌}, List.{List, [], ◌∷◌, map}}
use native.Mathlib.Omega.{arith}
use lib.{Dec.{T, ltb, ltb→lt}, ListN.{length, get_or, get_or-append}}
use mir.Facts.{and_yes}
use Rattle.text.proofs.Clash.{clash}
use Rattle.case.specs.Columns.{Column, Form, columns, name_count_lem, former_columns, all_columns, all_count}
use Rattle.case.specs.{Parts.{no_column, form_of, SameColumn}, declared.Form.TheVariants.{Present, Former}}

-- every place is below a count
all_below : ℕ → List ℕ → Bool
all_below count [] = true
all_below count (p ∷ ps) = ltb p count && all_below count ps

-- f of each place is the form's column
place_at : (f : ℕ → Column) (count : ℕ) (ps : List ℕ) (cs : Form) (k : ℕ) → map f ps ≡ cs → T (all_below count ps) → k < length cs
    → (get_or ps k 0 < count) × (f (get_or ps k 0) ≡ get_or cs k no_column)
unfolding all_below
place_at f count ps [] k e t h = absurd (omega arith)
place_at f count [] (c ∷ cs) k e t h = clash cc
place_at f count (p ∷ ps) (c ∷ cs) zero e t h = (ltb→lt p count (and_yes (ltb p count) (all_below count ps) t).0, cc)
place_at f count (p ∷ ps) (c ∷ cs) (suc k) e t h =
    place_at f count ps cs k (cc) (and_yes (ltb p count) (all_below count ps) t).1 (omega arith)

unfoldable pub former_places : List ℕ
former_places = 0 ∷ 1 ∷ 2 ∷ 3 ∷ 4 ∷ 22 ∷ 8 ∷ 9 ∷ 10 ∷ 11 ∷ 23 ∷ 14 ∷ 15 ∷ 16 ∷ 17 ∷ 18 ∷ 19 ∷ 20 ∷ []

pub former_place : (k : ℕ) → k < length former_columns → SameColumn Former k (get_or former_places k 0)
unfolding all_below columns all_columns former_columns former_places form_of
former_place k h =
    let p = place_at (λ i. get_or all_columns i no_column) all_count former_places former_columns k refl tt h in
    record { within = p.0; is = p.1 }

-- today's columns are the first
pub present_place : (k : ℕ) → k < length columns → SameColumn Present k k
unfolding form_of all_columns
present_place k h = record { within = omega (arith, name_count_lem); is = get_or-append columns _ no_column k h }
