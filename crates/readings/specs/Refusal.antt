-- Refusals. §9.1: "Refusals, in this order over the whole input: 12, 0, 0 when the count of numbers is 0, odd or above 128; 13 when a
-- distance is out of range; 14 when a resistance is; the last two with the first such pair's place from 1 as line, and column 1 or 2."
use Rattle.std.specs.Prelude.{ℕ, suc, ◌%◌, Option, Some, None}
use mathlib.Core.{Bool.{Bool, cond, ◌&&◌}, List.{List, [], ◌∷◌}}
use lib.{Dec.{leb, eqb}, ListN.{length}}
use Rattle.readings.specs.declared.{outside.Range.{Range}, Report.{Report}}
use Rattle.readings.specs.Reading.{Reading, pairs_of}
use Rattle.readings.specs.Limits.{most_numbers, distances, resistances, in_range}
use Rattle.std.specs.Prelude.{Result, Ok}
use Rattle.refusal.specs.{declared.Refused.{Refused}, Refused.{refuse}}

-- not 0, odd or above 128
unfoldable pub sound_count : ℕ → Bool
sound_count n = leb 1 n && (eqb (n % 2) 0 && leb n most_numbers)

-- the number in column 1 or 2 of a pair
unfoldable pub number_in : ℕ → Reading → ℕ
number_in column p = cond (eqb column 1) p.distance p.resistance

-- the first pair whose number in a column is out of range: its place, where the first of the list has the place given
unfoldable pub first_outside : Range → ℕ → ℕ → List Reading → Option ℕ
first_outside range column place [] = None
first_outside range column place (p ∷ ps) =
    cond (in_range range (number_in column p)) (first_outside range column (suc place) ps) (Some place)

-- the refusal of a pair found, else what comes next
unfoldable pub refused_at : ℕ → ℕ → Option ℕ → Result Report Refused → Result Report Refused
refused_at number column (Some place) next = refuse number place column
refused_at number column None next = next

-- 13, then 14, then the report
unfoldable pub judged : List Reading → Report → Result Report Refused
judged ps report =
    refused_at 13 1 (first_outside distances 1 1 ps) (refused_at 14 2 (first_outside resistances 2 1 ps) (Ok report))

-- the answer to a list of numbers: a refusal, or the report made of its pairs
unfoldable pub answer_of : (List Reading → Report) → List ℕ → Result Report Refused
answer_of report numbers = cond (sound_count (length numbers)) (judged (pairs_of numbers) (report (pairs_of numbers))) (refuse 12 0 0)
