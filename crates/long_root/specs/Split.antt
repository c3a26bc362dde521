-- The split by the squares of grid current and injected current. §9.2.
use Rattle.std.specs.Prelude.{ℕ, zero, suc, ◌*◌, Bool, cond, leb}

-- the smallest number that passes a test, which `most` passes
unfoldable pub smallest : (ℕ → Bool) → ℕ → ℕ
smallest test zero = zero
smallest test (suc most) = let later = suc (smallest (λ n. test (suc n)) most) in cond (test zero) zero later

-- "a million times": the square of a thousand
abbrev pub million : ℕ
million = 1000000

-- "the smallest whole per mille whose square times the injected square is not below a million times the grid's square". A million times the
-- grid's square is itself enough.
module _ (grid injected : ℕ) where
  unfoldable pub enough : ℕ → Bool
  enough s = leb (million * grid) (s * s * injected)

  unfoldable pub split_of : ℕ
  split_of = smallest enough (million * grid)
