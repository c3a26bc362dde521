-- `cli::input::fill`: the measure is what is left of the buffer, and no more is counted than it holds.
use Rattle.std.proofs.Common.{length, ◌-◌, ◌≡◌, ◌≤◌}
use Rattle.cli.proofs.input.fill.Given as goal

abbrev pub invariant-loop-done : goal.invariant-loop-done
invariant-loop-done g l = record { held : length l.buf ≡ length l.initial.buf; within : l.done ≤ length l.buf }

abbrev pub decreases-loop-done : goal.decreases-loop-done
decreases-loop-done g l = length l.initial.buf - l.done
