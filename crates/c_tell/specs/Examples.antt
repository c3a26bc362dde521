-- §11.1: the answer as one number, and where a refusal points.
use mathlib.Core.{Path.{◌≡◌, refl}, List.{[], ◌∷◌, map}}
use Rattle.std.specs.Prelude.{pos, negsuc}
use Rattle.c_tell.specs.{Answer.{signed_answer}, Place.{place_after}}
use Rattle.std.specs.Prelude.{Ok}
use Rattle.refusal.specs.{Refused.{refuse}}

answers : map signed_answer (Ok 1 ∷ Ok 256 ∷ refuse 1 0 0 ∷ refuse 5 3 16 ∷ refuse 8 0 0 ∷ []) ≡ pos 1 ∷ pos 256 ∷ negsuc 0 ∷ negsuc 4
    ∷ negsuc 7 ∷ []
unfolding signed_answer
answers = refl

places : map (place_after (refuse 5 3 16)) ([] ∷ (9 ∷ []) ∷ (9 ∷ 9 ∷ []) ∷ (9 ∷ 9 ∷ 9 ∷ []) ∷ []) ≡ [] ∷ (9 ∷ []) ∷ (3 ∷ 16 ∷ [])
    ∷ (3 ∷ 16 ∷ 9 ∷ []) ∷ []
unfolding place_after
places = refl

rows_keep_place : place_after (Ok 2) (9 ∷ 9 ∷ []) ≡ 9 ∷ 9 ∷ []
unfolding place_after
rows_keep_place = refl
