-- What an entry of the table says of two counts (§4.2, §4.6, §4.7).
use Rattle.std.specs.Prelude.{ℕ, ◌+◌, ◌≤◌, ◌≡◌}
use Rattle.interval.specs.{declared.Interval.{Interval}, Operations.{natural, minus_of}}
use Rattle.effective_number.specs.Number.{n_ends}
use Rattle.conductors.specs.Weights.{spread_ends, inner_ends, half_power_ends}
use Rattle.by_counts.specs.declared.Entry.{Entry}

-- from the lower end and the width
abbrev pub ends_of : ℕ → ℕ → Interval
ends_of low width = natural low (low + width)

-- the entry has the ends of the four quantities
pub record Holds (a b : ℕ) (e : Entry) : Type 0 where
  pub number : ends_of e.0 e.1 ≡ n_ends a b
  pub spread : minus_of (ends_of e.2 e.3) ≡ spread_ends (n_ends a b)
  pub inner : ends_of e.4 e.5 ≡ inner_ends a b (n_ends a b)
  pub half : ends_of e.6 e.7 ≡ half_power_ends (n_ends a b)

-- the two counts of a place in the table
pub record Sorted (low high : ℕ) : Type 0 where
  pub from : 2 ≤ low
  pub order : low ≤ high
  pub to : high ≤ 25
