-- What a reported grid current and split mean for the numbers of the test. §9.2; proofs/Reporting.antt has the law.
use Rattle.std.specs.Prelude.{ℕ, ◌*◌, ◌≤◌, ◌<◌}
use mathlib.Core.{Path.{◌≡◌}, List.{List}}
use Rattle.std.specs.Prelude.{ℤ, ◌+ℤ◌}
use Rattle.staged.specs.{Current.{in_phase, quadrature, injected, branches, total, square_of}, Answer.{injected_square}}
use Rattle.long_root.specs.Split.{million}

-- "Branches and grid together make the injected current exactly, part by part", and the split is "the smallest whole per mille whose square
-- times the injected square is not below a million times the grid's square"
pub record Reported (s : List ℤ) (a b : ℤ) (split : ℕ) : Type 0 where
  pub in_phase_whole : total (branches (in_phase s)) +ℤ a ≡ injected (in_phase s)
  pub quadrature_whole : total (branches (quadrature s)) +ℤ b ≡ injected (quadrature s)
  pub not_below : million * square_of a b ≤ split * split * injected_square s
  pub smaller_below : (m : ℕ) → m < split → m * m * injected_square s < million * square_of a b
