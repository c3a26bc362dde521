-- The greatest number at which a function is not above a limit: it is such a number, and the next one is not.
use Prim.Native.Nat.{ℕ, zero, suc, ◌≤◌, ◌<◌}
use mathlib.Core.Path.{◌≡◌}
use native.Mathlib.{Omega.{arith}, Nat.{lt_of_not-le, lt_of_le_of_lt}, Decide.{dec_le}}
use Rattle.exact.specs.Root.{greatest_below}
use Rattle.exact.proofs.Order.{choose_cases}

module _ (f : ℕ → ℕ) (limit : ℕ) where
  pub greatest_holds : (most : ℕ) → f 0 ≤ limit → f (greatest_below f limit most) ≤ limit
  unfolding greatest_below
  greatest_holds zero h = h
  greatest_holds (suc most) h = choose_cases (λ r. f r ≤ limit) (dec_le (f (suc most)) limit) (λ l. l) (λ _. greatest_holds most h)

  pub greatest_next : (most : ℕ) → limit < f (suc most) → limit < f (suc (greatest_below f limit most))
  unfolding greatest_below
  greatest_next zero h = h
  greatest_next (suc most) h =
      choose_cases (λ r. limit < f (suc r)) (dec_le (f (suc most)) limit) (λ _. h) (λ l. greatest_next most (lt_of_not-le l))

  -- the only such number, where f keeps the order
  pub greatest_unique : (most r : ℕ) → ((a b : ℕ) → f a < f b → a < b) → f 0 ≤ limit → limit < f (suc most)
      → f r ≤ limit → limit < f (suc r) → greatest_below f limit most ≡ r
  greatest_unique most r keeps first last l u =
      let g : ℕ = greatest_below f limit most in
      let a : g < suc r = keeps g (suc r) (lt_of_le_of_lt (greatest_holds most first) u) in
      let b : r < suc g = keeps r (suc g) (lt_of_le_of_lt l (greatest_next most last)) in
      omega arith
