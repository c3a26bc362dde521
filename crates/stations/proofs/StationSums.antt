-- What the passes gather at the place of a station is what the station's rows add up to, and so the numbers put are the summary.
use Prim.Native.Nat.{ℕ, zero, suc, ◌+◌, ◌*◌, ◌≤◌, ◌<◌}
use mathlib.Core.{Path.{◌≡◌, refl, sym, ap, ◌∙◌}, Bool.{Bool, true, false, cond}, List.{List, [], ◌∷◌, ◌++◌, map}}
use native.Mathlib.Omega.{arith}
use lib.{Dec.{eqb}, IntN.{ℤ, pos}, ListN.{length, get_or, take, drop, length-map, drop_of_length-le, get_or-map}}
use lib.Seq.{get_or-take, get_or-drop, drop-cons, take-suc, take_all}
use borrow.Author.Tests.{eqb-true, eqb-false}
use Rattle.case.specs.{declared.Case.{Case}, Case.{case_of}}
use Rattle.judgement.specs.Limits.{most_lines}
use Rattle.row.specs.{declared.Row.{Row}, Places.{season_place, verdict_place, mesh_upper_place}, Row.{row_length, numbers}, Ends.{row_of}}
use Rattle.table_rows.specs.Rows.{RowOf}
use Rattle.sheet.specs.Table.{row_at}
use Rattle.station_sums.specs.declared.{Entry.{Entry}, Sums.{Sums}}
use Rattle.station_sums.specs.Summary.{same_z, by_appearance, stations_of, stations, rows_of, count_of, worst_season, station_numbers, summary_of}
use Rattle.station_sums.specs.Sums.{entry_of, entry_at, add_to, none, worst_mesh, sums_of, sums_at, six, sixes}
use Rattle.station_sums.proofs.{Same.{same_refl, not_same}, OneRowMore.{rows_more, sums_more}}
use Rattle.appearance.specs.Places.{station_at, station_column, Places}

-- a row where there is none
abbrev no_row : Row
no_row = row_of (case_of [])

-- ---- what is read of a row

number_at : (table row : List ℤ) (i k : ℕ) → k < row_length → row_at table i ≡ row
    → get_or table (row_length * i + k) (pos 0) ≡ get_or row k (pos 0)
number_at table row i k h e =
    sym (get_or-drop (row_length * i) table k (pos 0)) ∙ sym (get_or-take row_length (drop (row_length * i) table) k (pos 0) h)
    ∙ ap (λ (l : List ℤ). get_or l k (pos 0)) e

entry_of_lem : (table : List ℤ) (i : ℕ) (r : Row) → row_at table i ≡ numbers r → entry_at table i ≡ entry_of r
unfolding entry_at entry_of numbers
entry_of_lem table i r e =
    cong_entry (number_at table (numbers r) i season_place (omega arith) e) (number_at table (numbers r) i verdict_place (omega arith) e)
    (number_at table (numbers r) i mesh_upper_place (omega arith) e)
  where
    cong_entry : {a b c a' b' c' : ℤ} → a ≡ a' → b ≡ b' → c ≡ c'
        → ◌≡◌ {A = Entry} (record { season = a; verdict = b; mesh = c }) (record { season = a'; verdict = b'; mesh = c' })
    cong_entry p q s = rw (p, q, s)

number_0 : (table : List ℤ) (i : ℕ) (r : Row) → row_at table i ≡ numbers r → station_at table i ≡ r.station
unfolding numbers
number_0 table i r e =
    let z : row_length * i ≡ row_length * i + 0 = omega arith in
    ap (λ (k : ℕ). get_or table k (pos 0)) z ∙ number_at table (numbers r) i 0 (omega arith) e

-- ---- the rows of some cases in a table

abbrev rows_in : List Case → List Row
rows_in cs = map row_of cs

module _ (cs : List Case) (table : List ℤ) (f : (i : ℕ) → i < length cs → RowOf (get_or cs i (case_of [])) (row_at table i)) where
  rows_count : length (rows_in cs) ≡ length cs
  rows_count = length-map cs row_of

  row_is : (i : ℕ) → i < length cs → row_at table i ≡ numbers (get_or (rows_in cs) i no_row)
  row_is i h = (f i h).is ∙ ap numbers (sym (get_or-map row_of cs i (case_of [])))

  station_is : (i : ℕ) → i < length cs → station_at table i ≡ (get_or (rows_in cs) i no_row).station
  station_is i h = number_0 table i _ (row_is i h)

  -- the column of the stations
  column_from : (i k : ℕ) → i + k ≡ length cs → station_column table i k ≡ drop i (stations_of (rows_in cs))
  unfolding station_column
  column_from i zero e =
      sym (drop_of_length-le (stations_of (rows_in cs)) {i = i} (omega (arith, length-map (rows_in cs) (λ r. r.station), rows_count)))
  column_from i (suc k) e =
      ap (λ (z : ℤ). z ∷ station_column table (suc i) k)
      (station_is i (omega arith) ∙ sym (get_or-map (λ r. r.station) (rows_in cs) i no_row))
      ∙ ap (λ (l : List ℤ). get_or (stations_of (rows_in cs)) i no_row.station ∷ l) (column_from (suc i) k (omega arith))
      ∙ sym (drop-cons (stations_of (rows_in cs)) i no_row.station (omega (arith, length-map (rows_in cs) (λ r. r.station), rows_count)))

  pub stations_found : by_appearance [] (station_column table 0 (length cs)) ≡ stations (rows_in cs)
  unfolding stations
  stations_found = ap (by_appearance []) (column_from 0 (length cs) (omega arith))

  -- ---- the sums at a place are those of the station's rows

  module _ {known : List ℤ} {places : List ℕ} {count : ℕ} (p : Places table (length cs) known places count) where
    -- a row is of the station at place j where j is its place
    place_tells : (j i : ℕ) → j < count → i < length cs
        → same_z (get_or known j (pos 0)) (get_or (rows_in cs) i no_row).station ≡ eqb (get_or places i 0) j
    place_tells j i l h = ap (same_z (get_or known j (pos 0))) (sym (p.own i h ∙ station_is i h)) ∙ go (eqb (get_or places i 0) j) refl
      where
        go : (b : Bool) → eqb (get_or places i 0) j ≡ b → same_z (get_or known j (pos 0)) (get_or known (get_or places i 0) (pos 0)) ≡ b
        go true e = rw (eqb-true (get_or places i 0) j e) (same_refl (get_or known j (pos 0)))
        go false e = not_same _ _ (λ s. eqb-false (get_or places i 0) j e (sym (p.apart j (get_or places i 0) l (p.within i h) s)))

    sums_to : (j i : ℕ) → j < count → i ≤ length cs → sums_at table places j i ≡ sums_of (rows_of (get_or known j (pos 0)) (take i (rows_in cs)))
    unfolding sums_at none sums_of rows_of count_of worst_season worst_mesh
    sums_to j zero l h = refl
    sums_to j (suc i) l h =
        let r = get_or (rows_in cs) i no_row in
        let st = get_or known j (pos 0) in
        let more : take (suc i) (rows_in cs) ≡ take i (rows_in cs) ++ (r ∷ []) = take-suc (rows_in cs) i no_row (omega (arith, rows_count)) in
        go (rows_of st (take i (rows_in cs))) (eqb (get_or places i 0) j) (sums_to j i l (omega arith))
        ∙ ap (λ (b : Bool). sums_of (cond b (rows_of st (take i (rows_in cs)) ++ (r ∷ [])) (rows_of st (take i (rows_in cs)))))
        (sym (place_tells j i l (omega arith)))
        ∙ ap sums_of (sym (ap (rows_of st) more ∙ rows_more st (take i (rows_in cs)) r))
      where
        go : {s : Sums} (rs : List Row) (b : Bool) → s ≡ sums_of rs
            → cond b (add_to s (entry_at table i)) s ≡ sums_of (cond b (rs ++ (get_or (rows_in cs) i no_row ∷ [])) rs)
        go {s} rs true e =
            ap (λ (x : Sums). add_to x (entry_at table i)) e ∙ ap (add_to (sums_of rs)) (entry_of_lem table i _ (row_is i (omega arith)))
            ∙ sym (sums_more rs (get_or (rows_in cs) i no_row))
        go rs false e = e

    station_sums : (j : ℕ) → j < count → sums_at table places j (length cs) ≡ sums_of (rows_of (get_or known j (pos 0)) (rows_in cs))
    station_sums j l =
        sums_to j (length cs) l (omega arith)
        ∙ ap (λ (rs : List Row). sums_of (rows_of (get_or known j (pos 0)) rs)) (take_all (length cs) (rows_in cs) (omega (arith, rows_count)))

    -- ---- the numbers put are the summary

    module _ (sums : List Sums) (g : (j : ℕ) → j < most_lines → get_or sums j none ≡ sums_at table places j (length cs))
        (small : length cs ≤ most_lines) where
      sixes_from : (i k : ℕ) → i + k ≡ count
          → sixes known sums i k ≡ map (λ station. station_numbers station (rows_of station (rows_in cs))) (take k (drop i known))
      unfolding sixes six station_numbers sums_of
      sixes_from i zero e = refl
      sixes_from i (suc k) e =
          let one-sum : get_or sums i none ≡ sums_of (rows_of (get_or known i (pos 0)) (rows_in cs)) =
          g i (omega (arith, p.most)) ∙ station_sums i (omega arith) in
          ap (λ (s : Sums). six (get_or known i (pos 0)) s ∷ sixes known sums (suc i) k) one-sum
          ∙ ap (λ (l : List (List ℤ)). station_numbers (get_or known i (pos 0)) (rows_of (get_or known i (pos 0)) (rows_in cs)) ∷ l)
          (sixes_from (suc i) k (omega arith))
          ∙ ap (λ (l : List ℤ). map (λ station. station_numbers station (rows_of station (rows_in cs))) (take (suc k) l))
          (sym (drop-cons known i (pos 0) (omega (arith, p.known_size, p.most))))

      pub summary_put : sixes known sums 0 count ≡ summary_of (rows_in cs)
      unfolding summary_of
      summary_put =
          sixes_from 0 count (omega arith) ∙ ap (map (λ station. station_numbers station (rows_of station (rows_in cs))))
          (p.known_are ∙ stations_found)
