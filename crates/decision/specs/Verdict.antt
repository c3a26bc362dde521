-- The verdict from the ends. §3.2.
use Rattle.std.specs.Prelude.{ℕ, Bool, cond, ◌&&◌, ◌||◌}
use Rattle.std.specs.Int.Signed.{le_z, lt_z}
use Rattle.interval.specs.declared.Interval.{Interval}
use Rattle.decision.specs.declared.Verdict.{TheVariants.{Safe, Unsafe, Undecided}, Verdict}

-- "verdict (1 safe, 2 unsafe, 3 undecided)"
unfoldable pub verdict_number : Verdict → ℕ
verdict_number Safe = 1
verdict_number Unsafe = 2
verdict_number Undecided = 3

module _ (tolerable_touch tolerable_step mesh step : Interval) where
  -- "Safe: upper mesh ≤ lower tolerable touch and upper step ≤ lower tolerable step."
  unfoldable pub safe : Bool
  safe = le_z mesh.upper tolerable_touch.lower && le_z step.upper tolerable_step.lower

  -- "Unsafe: lower mesh > upper tolerable touch, or lower step > upper tolerable step."
  unfoldable pub unsafe : Bool
  unsafe = lt_z tolerable_touch.upper mesh.lower || lt_z tolerable_step.upper step.lower

  -- "Otherwise undecided."
  unfoldable pub verdict : Verdict
  verdict = cond safe Safe (cond unsafe Unsafe Undecided)
