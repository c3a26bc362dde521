-- §11.1: where a refusal points: its line and column, for the side panel to show the cell.
use Rattle.std.specs.Prelude.{ℕ, List, [], ◌∷◌}
use Rattle.std.specs.Prelude.{Result, Ok, Err}
use Rattle.refusal.specs.{declared.Refused.{Refused}}

-- line and column in the first two numbers; a count of rows changes nothing, nor does a place of fewer than two numbers
unfoldable pub place_after : Result ℕ Refused → List ℕ → List ℕ
place_after (Ok count) place = place
place_after (Err why) [] = []
place_after (Err why) (a ∷ []) = a ∷ []
place_after (Err why) (a ∷ b ∷ rest) = why.1 ∷ why.2 ∷ rest
