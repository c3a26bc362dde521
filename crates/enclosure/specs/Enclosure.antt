-- A reported pair that includes an exact value's ends at one depth: all that code shows of its ends. With consistency it holds the value
-- (§5.7) at every depth.
use Rattle.interval.specs.declared.Interval.{Interval}
use Rattle.exact.specs.{Exact.{Exact}, Reported.{Scale, reported}, Depth.{work_depth, Within}}

pub record Encloses (x : Exact) (u : Scale) (i : Interval) : Type 0 where
  pub within : Within (x work_depth) (reported u i)
