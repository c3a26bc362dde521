-- Four-pin readings. §9.1: "They hand in pairs, a probe distance a in mm (500..50,000) and a resistance R in milliohms (1..1,000,000), as
-- 32-bit numbers."
use Rattle.std.specs.Prelude.{ℕ, List, [], ◌∷◌}

pub record Reading : Type 0 where
  -- a, in mm
  pub distance : ℕ
  -- R, in milliohms
  pub resistance : ℕ

-- the pairs of a list of numbers, in their order
unfoldable pub pairs_of : List ℕ → List Reading
pairs_of [] = []
pairs_of (a ∷ []) = []
pairs_of (a ∷ R ∷ numbers) = record { distance = a; resistance = R } ∷ pairs_of numbers
