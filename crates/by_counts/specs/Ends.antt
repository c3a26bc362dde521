-- The ends of what depends on the two counts alone (§4.2, §4.6, §4.7).
use Rattle.std.specs.Prelude.{ℕ}
use Rattle.case.specs.declared.Case.{Case}
use Rattle.effective_number.specs.Number.{n_ends}
use Rattle.conductors.specs.Weights.{spread_ends, inner_ends, half_power_ends}
use Rattle.by_counts.specs.declared.ByCounts.{ByCounts}

abbrev pub by_counts : ℕ → ℕ → ByCounts
by_counts a b =
    record {
      n = n_ends a b;
      spread = spread_ends (n_ends a b);
      inner = inner_ends a b (n_ends a b);
      half = half_power_ends (n_ends a b);
    }

-- of a case
abbrev pub by_counts_of : Case → ByCounts
by_counts_of c = by_counts c.across c.along
