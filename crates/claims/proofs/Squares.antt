-- §4.1, §4.2, §4.7: what a square keeps.
use mathlib.Core.Path.{◌≡◌}
use Rattle.case.specs.{declared.Case.{Case}, Bounds.{Bounds}}
use Rattle.formulas.proofs.Square as kept
use Rattle.claims.specs.Requests.{SquareKept}

pub square : {c : Case} → Bounds c → c.across ≡ c.along → SquareKept c
square {c} b e =
    record {
      n_is = kept.n_whole c e;
      side = kept.s_side c e;
      lc = kept.conductors c e;
      na_is = kept.na_whole c e b;
      diagonal_is = kept.diagonal_square c e;
      Kii = kept.weight_root c e;
      half_power_lem = kept.half_power_lem c e;
    }
