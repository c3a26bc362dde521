-- What the fault current does not change stays with another one.
use Prim.Native.Nat.{ℕ}
use mathlib.Core.Path.{◌≡◌, refl}
use Rattle.case.specs.{declared.Case.{Case}, Fault.{with_fault}}
use Rattle.tolerable.specs.Ends.{layered, layer_ends, body_factor, time_root, top_ends, tolerable_ends, touch_ends, step_ends}
use Rattle.lengths.specs.Lengths.{lc_mm, lr_mm, lt_mm}
use Rattle.decrement.specs.Ends.{exponent_ends, ratio_ends, rest_ends, square_ends, df_ends}
use Rattle.step.specs.Ends.{power_of_two, share_ends, reach, spacing_sum, ks_ends, ls_twentieths}
use Rattle.mesh.specs.Factor.{argument_top, argument_bottom, argument_log, kh_ends, kii_ends, inner_term, km_ends}
use Rattle.mesh.specs.Ends.{diagonal_ends, rod_weight, weighed_length, lm_ends}
use Rattle.row.specs.Parts.{fixed_of}

pub same_parts : (f : ℕ) (c : Case) → fixed_of (with_fault f c) ≡ fixed_of c
unfolding fixed_of touch_ends step_ends tolerable_ends top_ends time_root body_factor layer_ends layered
    df_ends square_ends rest_ends ratio_ends exponent_ends lc_mm lr_mm lt_mm
    lm_ends weighed_length rod_weight diagonal_ends
    km_ends inner_term kii_ends kh_ends argument_log argument_top argument_bottom
    ls_twentieths ks_ends spacing_sum share_ends power_of_two reach
same_parts f c = refl
