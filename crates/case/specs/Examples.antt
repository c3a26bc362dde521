-- The checks of a record computed on examples.
use Rattle.std.specs.Prelude.{ℕ}
use mathlib.Core.{Path.{◌≡◌, refl}, List.{List, [], ◌∷◌, map}}
use Rattle.text.specs.Text.{same}
use Rattle.case.specs.declared.Finding.{Finding, TheVariants.{Sound, OutOfRange, Disagreement}}
use Rattle.case.specs.{Columns.{columns, in_range, name_index, named}, Case.{case_of}}
use Rattle.case.specs.Check.{left_of, out_of_range, agree, disagreement, finding, case_finding, count_from, own_places, record_finding}

-- the finding of the record of some values
found : List ℕ → Finding
unfolding same columns in_range name_index named left_of out_of_range agree disagreement finding case_finding count_from own_places record_finding
found v = record_finding (case_of v)

-- the sample (§3.3), and the ends of every range with a layer and rods
sound : map found (
    (7 ∷ 1 ∷ 400 ∷ 2500 ∷ 102 ∷ 500 ∷ 500 ∷ 500 ∷ 70 ∷ 3180 ∷ 600 ∷ 10 ∷ 11 ∷ 11 ∷ 7000 ∷ 500 ∷ 100 ∷ 0 ∷ 0 ∷ 0 ∷ 1 ∷ 60 ∷ [])
    ∷ (1 ∷ 1 ∷ 10 ∷ 100 ∷ 20 ∷ 9 ∷ 9 ∷ 9 ∷ 50 ∷ 100 ∷ 1 ∷ 1 ∷ 2 ∷ 2 ∷ 2500 ∷ 250 ∷ 50 ∷ 1 ∷ 1000 ∷ 1 ∷ 1 ∷ 50 ∷ [])
    ∷ (65535 ∷ 4 ∷ 5000 ∷ 10000 ∷ 300 ∷ 3000 ∷ 3000 ∷ 3000 ∷ 70 ∷ 80000 ∷ 1000 ∷ 40 ∷ 25 ∷ 25 ∷ 30000 ∷ 2500 ∷ 300 ∷ 200 ∷ 10000 ∷ 2 ∷ 11 ∷
    60 ∷ [])
    ∷ []) ≡ Sound ∷ Sound ∷ Sound ∷ []
unfolding found
sound = refl

-- every value one below its range, then one above, with only the first column at fault reported: depth 249 and 2501 alone; a frequency
-- between the two
refused : map found (
    (7 ∷ 1 ∷ 400 ∷ 0 ∷ 0 ∷ 500 ∷ 500 ∷ 500 ∷ 70 ∷ 3180 ∷ 600 ∷ 10 ∷ 11 ∷ 11 ∷ 7000 ∷ 249 ∷ 100 ∷ 0 ∷ 0 ∷ 0 ∷ 1 ∷ 60 ∷ [])
    ∷ (7 ∷ 1 ∷ 400 ∷ 0 ∷ 0 ∷ 500 ∷ 500 ∷ 500 ∷ 70 ∷ 3180 ∷ 600 ∷ 10 ∷ 11 ∷ 11 ∷ 7000 ∷ 2501 ∷ 100 ∷ 0 ∷ 0 ∷ 0 ∷ 1 ∷ 60 ∷ [])
    ∷ (0 ∷ 0 ∷ 9 ∷ 99 ∷ 19 ∷ 8 ∷ 8 ∷ 8 ∷ 49 ∷ 99 ∷ 0 ∷ 0 ∷ 1 ∷ 1 ∷ 2499 ∷ 249 ∷ 49 ∷ 201 ∷ 999 ∷ 3 ∷ 0 ∷ 49 ∷ [])
    ∷ (7 ∷ 5 ∷ 9 ∷ 99 ∷ 19 ∷ 8 ∷ 8 ∷ 8 ∷ 49 ∷ 99 ∷ 0 ∷ 0 ∷ 1 ∷ 1 ∷ 2499 ∷ 249 ∷ 49 ∷ 201 ∷ 999 ∷ 3 ∷ 0 ∷ 49 ∷ [])
    ∷ (7 ∷ 1 ∷ 400 ∷ 1 ∷ 19 ∷ 8 ∷ 8 ∷ 8 ∷ 49 ∷ 99 ∷ 0 ∷ 0 ∷ 1 ∷ 1 ∷ 2499 ∷ 249 ∷ 49 ∷ 201 ∷ 999 ∷ 3 ∷ 0 ∷ 49 ∷ [])
    ∷ (7 ∷ 1 ∷ 400 ∷ 0 ∷ 0 ∷ 500 ∷ 500 ∷ 500 ∷ 60 ∷ 80001 ∷ 1001 ∷ 41 ∷ 26 ∷ 26 ∷ 30001 ∷ 2501 ∷ 301 ∷ 201 ∷ 10001 ∷ 3 ∷ 12 ∷ 61 ∷ [])
    ∷ (7 ∷ 1 ∷ 400 ∷ 0 ∷ 0 ∷ 500 ∷ 500 ∷ 500 ∷ 70 ∷ 3180 ∷ 600 ∷ 10 ∷ 11 ∷ 11 ∷ 7000 ∷ 500 ∷ 100 ∷ 0 ∷ 0 ∷ 0 ∷ 12 ∷ 61 ∷ [])
    ∷ (7 ∷ 1 ∷ 400 ∷ 0 ∷ 0 ∷ 500 ∷ 500 ∷ 500 ∷ 70 ∷ 3180 ∷ 600 ∷ 10 ∷ 11 ∷ 11 ∷ 7000 ∷ 500 ∷ 100 ∷ 0 ∷ 0 ∷ 0 ∷ 1 ∷ 55 ∷ [])
    ∷ []) ≡ OutOfRange 16 ∷ OutOfRange 16 ∷ OutOfRange 1 ∷ OutOfRange 2 ∷ OutOfRange 4 ∷ OutOfRange 9 ∷ OutOfRange 21 ∷ OutOfRange 22 ∷ []
unfolding found
refused = refl

-- layer without thick, thick without layer, layer before rods, and each of rods, rodlen, place alone or missing
disagreeing : map found (
    (7 ∷ 1 ∷ 400 ∷ 2500 ∷ 0 ∷ 500 ∷ 500 ∷ 500 ∷ 70 ∷ 3180 ∷ 600 ∷ 10 ∷ 11 ∷ 11 ∷ 7000 ∷ 500 ∷ 100 ∷ 0 ∷ 0 ∷ 0 ∷ 1 ∷ 60 ∷ [])
    ∷ (7 ∷ 1 ∷ 400 ∷ 0 ∷ 102 ∷ 500 ∷ 500 ∷ 500 ∷ 70 ∷ 3180 ∷ 600 ∷ 10 ∷ 11 ∷ 11 ∷ 7000 ∷ 500 ∷ 100 ∷ 5 ∷ 0 ∷ 0 ∷ 1 ∷ 60 ∷ [])
    ∷ (7 ∷ 1 ∷ 400 ∷ 0 ∷ 0 ∷ 500 ∷ 500 ∷ 500 ∷ 70 ∷ 3180 ∷ 600 ∷ 10 ∷ 11 ∷ 11 ∷ 7000 ∷ 500 ∷ 100 ∷ 5 ∷ 0 ∷ 1 ∷ 1 ∷ 60 ∷ [])
    ∷ (7 ∷ 1 ∷ 400 ∷ 0 ∷ 0 ∷ 500 ∷ 500 ∷ 500 ∷ 70 ∷ 3180 ∷ 600 ∷ 10 ∷ 11 ∷ 11 ∷ 7000 ∷ 500 ∷ 100 ∷ 5 ∷ 1000 ∷ 0 ∷ 1 ∷ 60 ∷ [])
    ∷ (7 ∷ 1 ∷ 400 ∷ 0 ∷ 0 ∷ 500 ∷ 500 ∷ 500 ∷ 70 ∷ 3180 ∷ 600 ∷ 10 ∷ 11 ∷ 11 ∷ 7000 ∷ 500 ∷ 100 ∷ 0 ∷ 1000 ∷ 2 ∷ 1 ∷ 60 ∷ [])
    ∷ []) ≡ Disagreement 4 ∷ Disagreement 4 ∷ Disagreement 18 ∷ Disagreement 18 ∷ Disagreement 18 ∷ []
unfolding found
disagreeing = refl
