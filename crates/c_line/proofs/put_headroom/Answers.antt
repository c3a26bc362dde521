-- `put_headroom` puts the headroom of the case.
use mathlib.Core.{Path.{ap, ◌∙◌}, List.{[], ◌∷◌}}
use native.Mathlib.Omega.{arith}
use mir.{Syntax.{w64}, Facts.{to_z_pos}}
use Rattle.c_line.proofs.{LineParts.{set_one}}
use Rattle.c_line.proofs.put_headroom.Goals as goal

pub returns : goal.returns
returns c =
    record {
      fault = c.greatest_fault-fault.result;
      is = set_one c.args.part.now _ c.requires.part_len ∙ ap (λ z. z ∷ []) (to_z_pos w64 {n = c.greatest_fault-fault.result} (omega arith));
      right = c.greatest_fault-fault.ensures;
    }
