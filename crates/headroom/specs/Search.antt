-- One turn of the search for the headroom (§6.6).
use Rattle.std.specs.Prelude.{ℕ, ◌+◌, ◌-◌, ◌/◌, ◌<◌, ◌≡◌}

-- a fault current strictly between those known to be safe and not, and their middle where no guess is left
pub record Next (safe over guesses r : ℕ) : Type 0 where
  pub above : safe < r
  pub below : r < over
  pub middle : guesses ≡ 0 → r ≡ safe + (over - safe) / 2
