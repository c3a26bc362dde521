-- §6.7: the list of yards, computed on a side of 70 m.
use mathlib.Core.{Path.{◌≡◌, refl}, List.{[], ◌∷◌, map}}
use Rattle.std.specs.Prelude.{length}
use Rattle.case.specs.{declared.Case.{Case}, Columns.{columns, in_range, name_index}, Parts.{range_at}, Check.{count_from}}
use Rattle.text.specs.Text.{same}
use Rattle.yards.specs.Yards.{spacing, space_range, fits, rod_counts, yards_of, yards_over, yards_from, yards}

-- 0, 4, 8 up to 40 rods
rods : rod_counts 0 ≡ 0 ∷ 4 ∷ 8 ∷ 12 ∷ 16 ∷ 20 ∷ 24 ∷ 28 ∷ 32 ∷ 36 ∷ 40 ∷ []
unfolding rod_counts count_from
rods = refl

-- 5, 6, 8, 9, 11, 15, 17 and 21 lines divide 70 m into whole spaces of 2.5 to 30 m
seventy : (c : Case) → length (yards c 70000) ≡ 88
unfolding space_range range_at columns in_range name_index same spacing fits rod_counts count_from yards_of yards_over yards_from yards
seventy c = refl

-- no count divides 2,501 mm into whole spaces within range but 2, and none 720,001 mm; 55,440 mm has the most yards of any side
others : (c : Case) → map (λ side. length (yards c side)) (2501 ∷ 720001 ∷ 55440 ∷ 720000 ∷ []) ≡ 11 ∷ 0 ∷ 198 ∷ 11 ∷ []
unfolding space_range range_at columns in_range name_index same spacing fits rod_counts count_from yards_of yards_over yards_from yards
others c = refl
