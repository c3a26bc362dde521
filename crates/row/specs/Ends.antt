-- §3.1: the row of a case by the names of its ends: the free part of a row has a name for each pair.
use Rattle.std.specs.Prelude.{pos}
use Rattle.case.specs.declared.Case.{Case}
use Rattle.formulas.specs.Size as Size
use Rattle.tolerable.specs.Ends.{touch_ends, step_ends}
use Rattle.decision.specs.{declared.Verdict.{Verdict}, Verdict.{verdict}}
use Rattle.decrement.specs.Ends.{df_ends}
use Rattle.current.specs.Ends.{ig_ends, upper_factor}
use Rattle.resistance.specs.Ends.{resistance_ends, rise_ends}
use Rattle.step.specs.Ends.{step_voltage_ends}
use Rattle.mesh.specs.Ends.{mesh_ends}
use Rattle.row.specs.declared.Row.{Row}

-- the verdict of a case
unfoldable pub case_verdict : Case → Verdict
case_verdict c = verdict (touch_ends c) (step_ends c) (mesh_ends c) (step_voltage_ends c)

unfoldable pub row_of : Case → Row
row_of c =
    record {
      station = pos c.station;
      season = pos c.season;
      verdict = case_verdict c;
      size = pos (Size.size c (upper_factor c));
      current = ig_ends c;
      factor = df_ends c;
      tolerable_touch = touch_ends c;
      tolerable_step = step_ends c;
      mesh = mesh_ends c;
      step = step_voltage_ends c;
      resistance = resistance_ends c;
      rise = rise_ends c;
    }
