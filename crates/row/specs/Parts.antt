-- §3.2: the parts of a row that decide its verdict, by the names of their ends.
use Rattle.case.specs.declared.Case.{Case}
use Rattle.tolerable.specs.Ends.{touch_ends, step_ends}
use Rattle.decrement.specs.Ends.{df_ends}
use Rattle.current.specs.Ends.{ig_ends}
use Rattle.drive.specs.Ends.{number_of}
use Rattle.step.specs.Ends.{ks_ends, ls_twentieths, step_voltage_ends}
use Rattle.mesh.specs.{Factor.{km_ends}, Ends.{lm_ends, mesh_ends}}
use Rattle.row.specs.declared.{Fixed.{Fixed}, Driven.{Driven}}

-- what the fault current does not change: proofs/SameParts.antt
unfoldable pub fixed_of : Case → Fixed
fixed_of c =
    record {
      factor = df_ends c;
      tolerable_touch = touch_ends c;
      tolerable_step = step_ends c;
      number = number_of c;
      lm = lm_ends c;
      km = km_ends c;
      ls = ls_twentieths c;
      ks = ks_ends c;
    }

-- what it drives
unfoldable pub driven_of : Case → Driven
driven_of c = record { current = ig_ends c; mesh = mesh_ends c; step = step_voltage_ends c }
