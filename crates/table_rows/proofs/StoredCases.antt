-- The cases of stored values.
use Prim.Native.Nat.{ℕ, ◌<◌}
use mathlib.Core.{Path.{◌≡◌, ap, ◌∙◌}, List.{List, []}}
use lib.ListN.{length, get_or, length-map, get_or-map}
use Rattle.tables.{specs.Parts.{part_at, parts_of}, proofs.Parts.{parts_length, parts_at}}
use Rattle.case.specs.{Case.{case_of}, Columns.{name_count}}
use Rattle.table_rows.specs.Rows.{stored_cases}

pub cases_count : (values : List ℕ) (n : ℕ) → length (stored_cases values n) ≡ n
unfolding stored_cases
cases_count values n = length-map (parts_of name_count n values) case_of ∙ parts_length name_count n values

pub stored_case : (values : List ℕ) (n i : ℕ) → i < n → get_or (stored_cases values n) i (case_of []) ≡ case_of (part_at name_count values i)
unfolding stored_cases
stored_case values n i h = get_or-map case_of (parts_of name_count n values) i [] ∙ ap case_of (parts_at name_count n i values h)
