-- §7.1: the counts of a station as rows are added to them, read from the table of rows.
use Rattle.std.specs.Prelude.{ℕ, zero, suc, ◌+◌, ◌*◌, ◌≤◌, ◌<◌, ◌^◌}
use mathlib.Core.{Bool.{Bool, cond, ◌||◌}, List.{List, [], ◌∷◌, ◌++◌}}
use lib.{Dec.{eqb}, IntN.{ℤ, pos}, ListN.{get_or, length, take, drop}, Signed.{lt_z}}
use Rattle.whole.specs.Count.{one}
use Rattle.decision.specs.{declared.Verdict.TheVariants.{Safe, Unsafe, Undecided}, Verdict.{verdict_number}}
use Rattle.row.specs.{declared.Row.{Row}, Row.{row_length}, Places.{season_place, verdict_place, mesh_upper_place}}
use Rattle.station_sums.specs.{declared.{Entry.{Entry}, Sums.{Sums}}, Summary.{same_z, count_of, highest, worst_season, station_length}}

-- ---- what the summary reads of a row

unfoldable pub entry_of : Row → Entry
entry_of r = record { season = r.season; verdict = pos (verdict_number r.verdict); mesh = r.mesh.upper }

-- of row i of a table
unfoldable pub entry_at : List ℤ → ℕ → Entry
entry_at table i =
    record {
      season = get_or table (row_length * i + season_place) (pos 0);
      verdict = get_or table (row_length * i + verdict_place) (pos 0);
      mesh = get_or table (row_length * i + mesh_upper_place) (pos 0);
    }

-- ---- one row more

unfoldable pub worst : Sums → Entry → Bool
worst s e = eqb s.seasons 0 || lt_z s.mesh e.mesh

unfoldable pub add_to : Sums → Entry → Sums
add_to s e =
    record {
      seasons = s.seasons + 1;
      safe = s.safe + one (same_z e.verdict (pos 1));
      not_safe = s.not_safe + one (same_z e.verdict (pos 2));
      undecided = s.undecided + one (same_z e.verdict (pos 3));
      season = cond (worst s e) e.season s.season;
      mesh = cond (worst s e) e.mesh s.mesh;
    }

unfoldable pub none : Sums
none = record { seasons = 0; safe = 0; not_safe = 0; undecided = 0; season = pos 0; mesh = pos 0 }

-- counts that 64 bits hold with one more
pub record Small (s : Sums) : Type 0 where
  pub seasons : s.seasons < 2 ^ 63
  pub safe : s.safe ≤ s.seasons
  pub not_safe_lem : s.not_safe ≤ s.seasons
  pub undecided : s.undecided ≤ s.seasons

-- ---- all rows

-- the highest upper mesh end of some rows
unfoldable pub worst_mesh : List Row → ℤ
worst_mesh [] = pos 0
worst_mesh (r ∷ rs) = (highest r rs).mesh.upper

-- the sums of some rows
unfoldable pub sums_of : List Row → Sums
sums_of rows =
    record {
      seasons = length rows;
      safe = count_of Safe rows;
      not_safe = count_of Unsafe rows;
      undecided = count_of Undecided rows;
      season = worst_season rows;
      mesh = worst_mesh rows;
    }

-- the sums at a place of the first n rows of a table; `places` has the place of each row's station
unfoldable pub sums_at : List ℤ → List ℕ → ℕ → ℕ → Sums
sums_at table places place zero = none
sums_at table places place (suc n) =
    cond (eqb (get_or places n 0) place) (add_to (sums_at table places place n) (entry_at table n)) (sums_at table places place n)

-- ---- the summary table

-- station, seasons, safe, unsafe, undecided, season with the highest upper mesh end
unfoldable pub six : ℤ → Sums → List ℤ
six station s = station ∷ pos s.seasons ∷ pos s.safe ∷ pos s.not_safe ∷ pos s.undecided ∷ s.season ∷ []

-- count stations from the one with index i on
unfoldable pub sixes : List ℤ → List Sums → ℕ → ℕ → List (List ℤ)
sixes stations sums i zero = []
sixes stations sums i (suc count) = six (get_or stations i (pos 0)) (get_or sums i none) ∷ sixes stations sums (suc i) count

-- the six numbers of the station with index i put in their place
unfoldable pub put_at : ℕ → List ℤ → List ℤ → List ℤ
put_at i x t = take (station_length * i) t ++ (x ++ drop (station_length * i + station_length) t)
