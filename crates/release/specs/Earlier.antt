-- §7.2: the checks of a licence by the index of an entry: number 3k is its station, number 3k + 1 its seasons, number 3k + 2 its
-- cross-section.
use Rattle.std.specs.Prelude.{ℕ, zero, suc, ◌+◌, ◌*◌}
use mathlib.Core.{Bool.{cond}, List.{List, [], ◌∷◌}}
use Rattle.std.specs.Prelude.{get_or, Option, Some, None}
use Rattle.release.specs.Licence.{Entry, wrong_station, wrong_seasons, wrong_area}

abbrev pub entry_at : List ℕ → ℕ → Entry
entry_at licence k =
    record { station = get_or licence (3 * k) 0; seasons = get_or licence (3 * k + 1) 0; area = get_or licence (3 * k + 2) 0 }

-- the stations of the first entries, the last of them first
unfoldable pub earlier : List ℕ → ℕ → List ℕ
earlier licence zero = []
earlier licence (suc k) = get_or licence (3 * k) 0 ∷ earlier licence k

-- the column at fault of entry k
unfoldable pub wrong_at : List ℕ → ℕ → Option ℕ
wrong_at licence k =
    cond (wrong_station (earlier licence k) (get_or licence (3 * k) 0)) (Some 1)
    (cond (wrong_seasons (get_or licence (3 * k + 1) 0)) (Some 2) (cond (wrong_area (get_or licence (3 * k + 2) 0)) (Some 3) None))
