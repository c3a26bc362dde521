-- §6.4: the working of a case by the names of its ends. All but Cs are the ends that its row is computed from. These name the free part of
-- the answers: callers use only their laws.
use Rattle.std.specs.Prelude.{ℕ, ◌+◌, ◌*◌, ◌^◌, cond}
use lib.{Dec.{eqb}, IntN.{pos}}
use Rattle.interval.specs.{declared.Interval.{Interval}, Operations.{point, quotient_of}}
use Rattle.case.specs.declared.Case.{Case}
use Rattle.effective_number.specs.Number.{ki_ends}
use Rattle.tolerable.specs.Ends.{time_root}
use Rattle.lengths.specs.Lengths.{lc_mm, lr_mm, lt_mm}
use Rattle.drive.specs.Ends.{number_of}
use Rattle.resistance.specs.Ends.{side_ends}
use Rattle.step.specs.Ends.{ks_ends, ls_twentieths}
use Rattle.mesh.specs.{Factor.{kh_ends, kii_ends, km_ends}, Ends.{lm_ends, driven_ends}}
use Rattle.working.specs.declared.Quantities.{Quantities}

module _ (c : Case) where
  -- Cs with a layer is `derated` over `full`, thick in mm
  unfoldable pub derated : ℕ
  derated = 2 * (c.layer * c.thick) + 90 * c.soil

  unfoldable pub full : ℕ
  full = c.layer * (2 * c.thick + 90)

  -- Cs in 10^−9
  unfoldable pub cs_ends : Interval
  cs_ends = cond (eqb c.layer 0) (point (pos (10 ^ 9))) (quotient_of (point (pos derated)) (point (pos full)) (10 ^ 9))

  unfoldable pub working_of : Quantities
  working_of =
      record {
        cs = cs_ends;
        root_time = time_root c;
        side = side_ends c;
        lc = point (pos (1000 * lc_mm c));
        lr = point (pos (1000 * lr_mm c));
        lt = point (pos (1000 * lt_mm c));
        lm = lm_ends c;
        ls = point (pos (50 * ls_twentieths c));
        n = number_of c;
        ki = ki_ends (number_of c);
        kii = kii_ends c;
        kh = kh_ends c;
        km = km_ends c;
        ks = ks_ends c;
        driven = driven_ends c;
      }
