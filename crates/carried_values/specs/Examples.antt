-- Lines that cannot be carried back (§8.3).
use mathlib.Core.{Path.{◌≡◌, refl}, List.{[], ◌∷◌, map}}
use Rattle.text.specs.Text.{same}
use Rattle.case.specs.Columns.{columns, name_index, named}
use Rattle.carried_values.specs.Changes.{line_change, changes_from}
use Rattle.std.specs.Prelude.{Ok}
use Rattle.refusal.specs.{Refused.{refuse}}

-- the same times, counts and frequency; another wire time; another count along, and another frequency; another frequency
changed : map (λ v. changes_from 2 (v ∷ []))
    ((7 ∷ 1 ∷ 400 ∷ 0 ∷ 0 ∷ 500 ∷ 500 ∷ 500 ∷ 70 ∷ 3180 ∷ 600 ∷ 10 ∷ 11 ∷ 11 ∷ 7000 ∷ 500 ∷ 100 ∷ 0 ∷ 0 ∷ 0 ∷ 1 ∷ 60 ∷ [])
    ∷ (7 ∷ 1 ∷ 400 ∷ 0 ∷ 0 ∷ 500 ∷ 500 ∷ 501 ∷ 70 ∷ 3180 ∷ 600 ∷ 10 ∷ 11 ∷ 12 ∷ 7000 ∷ 500 ∷ 100 ∷ 0 ∷ 0 ∷ 0 ∷ 1 ∷ 50 ∷ [])
    ∷ (7 ∷ 1 ∷ 400 ∷ 0 ∷ 0 ∷ 500 ∷ 500 ∷ 500 ∷ 70 ∷ 3180 ∷ 600 ∷ 10 ∷ 11 ∷ 12 ∷ 7000 ∷ 500 ∷ 100 ∷ 0 ∷ 0 ∷ 0 ∷ 1 ∷ 50 ∷ [])
    ∷ (7 ∷ 1 ∷ 400 ∷ 0 ∷ 0 ∷ 500 ∷ 500 ∷ 500 ∷ 70 ∷ 3180 ∷ 600 ∷ 10 ∷ 11 ∷ 11 ∷ 7000 ∷ 500 ∷ 100 ∷ 0 ∷ 0 ∷ 0 ∷ 1 ∷ 50 ∷ [])
    ∷ []) ≡ Ok tt ∷ refuse 9 2 0 ∷ refuse 10 2 0 ∷ refuse 11 2 0 ∷ []
unfolding line_change changes_from named name_index columns same
changed = refl
