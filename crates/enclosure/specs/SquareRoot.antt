-- §5.3: the whole part of a square root, and the pair of it and the next number.
use Rattle.std.specs.Prelude.{ℕ, ◌+◌, ◌*◌}
use Rattle.interval.specs.{declared.Interval.{Interval}, Operations.{natural}}
use Rattle.exact.specs.Root.{greatest_below}

-- the greatest number whose square is not above x
unfoldable pub square_root : ℕ → ℕ
square_root x = greatest_below (λ r. r * r) x x

unfoldable pub root_pair : ℕ → Interval
root_pair x = natural (square_root x) (square_root x + 1)
