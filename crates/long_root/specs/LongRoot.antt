-- How the split (§9.2) is computed within 64 bits: a root by decimal digits. A root is a whole number and the remainder that its square
-- times the injected square leaves.
use Rattle.std.specs.Prelude.{ℕ, ◌+◌, ◌*◌, ◌^◌, ◌≤◌, ◌<◌, ◌≡◌}
use Rattle.long_root.specs.declared.Root.{Root}

-- the squares of a grid current and an injected current whose parts are at most 17,000,000 and 1,000,000
pub record Squares (grid injected : ℕ) : Type 0 where
  pub grid_most : grid ≤ 578 * 10 ^ 12
  pub some : 0 < injected
  pub most : injected ≤ 2 * 10 ^ 12

module _ (injected : ℕ) where
  -- what the root is taken of, over the injected square
  unfoldable pub radicand : Root → ℕ
  radicand r = r.whole * r.whole * injected + r.rest

  -- the whole number is the greatest
  unfoldable pub Greatest : Root → Type 0
  Greatest r = r.rest < (2 * r.whole + 1) * injected

  -- one digit more keeps within 64 bits
  pub record Room (r : Root) : Type 0 where
    pub greatest : Greatest r
    pub some : 0 < injected
    pub most : injected ≤ 2 * 10 ^ 12
    pub product : radicand r * injected ≤ 1156 * 10 ^ 28

  -- q has one digit more than r
  pub record Appended (r q : Root) : Type 0 where
    pub greatest : Greatest q
    pub more : radicand q ≡ 100 * radicand r

-- the root of the grid's square by the injected square
pub record Begun (grid injected : ℕ) (r : Root) : Type 0 where
  pub greatest : Greatest injected r
  pub of_grid : radicand injected r ≡ grid

-- ten is too large for a digit
pub record DigitRoom (whole rest injected : ℕ) : Type 0 where
  pub ten : rest < (20 * whole + 10) * 10 * injected
  pub whole_small : whole < 2 ^ 52
  pub fits : (20 * whole + 10) * 10 * injected < 2 ^ 63

-- the greatest digit
pub record IsDigit (whole rest injected d : ℕ) : Type 0 where
  pub single : d < 10
  pub low : (20 * whole + d) * d * injected ≤ rest
  pub high : rest < (20 * whole + (d + 1)) * (d + 1) * injected
