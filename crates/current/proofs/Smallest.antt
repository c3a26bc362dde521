-- The smallest number for the rounded square is the conductor size.
use Prim.Native.Nat.{ℕ, ◌*◌, ◌<◌}
use mathlib.Core.Path.{◌≡◌, ap}
use native.Mathlib.{Omega.{arith}, Decide.{dec_lt}}
use Rattle.case.specs.declared.Case.{Case}
use Rattle.formulas.{specs.Size.{duty, size}, proofs.Size.{size_enough, size_least}}
use Rattle.exact.proofs.Powers.{square}
use Rattle.current.specs.Size.{square_load, IsSmallest}
use Rattle.current.proofs.SquareLoad.{load_low, load_high}

module _ (c : Case) (f r : ℕ) (s : IsSmallest (square_load (duty c f) c.wire) r) where
  not_below : r < size c f → ⊥
  not_below h =
      omega (arith, s.enough, load_low (duty c f) c.wire, size_least c f r h, square r, ap (λ t. t * c.wire) (square (duty c f)))

  not_above : size c f < r → ⊥
  not_above h =
      omega (
        arith,
        s.least (size c f) h,
        load_high (duty c f) c.wire,
        size_enough c f,
        square (size c f),
        ap (λ t. t * c.wire) (square (duty c f)),
      )

  pub size_is : r ≡ size c f
  size_is = go (dec_lt r (size c f)) (dec_lt (size c f) r)
    where
      go : Dec (r < size c f) → Dec (size c f < r) → r ≡ size c f
      go (yes h) d = absurd (not_below h)
      go (no h) (yes k) = absurd (not_above k)
      go (no h) (no k) = omega arith
