-- `signed_answer`: a count is small, and a refusal's number is taken from 0.
use Prim.Native.Nat.{ℕ, ◌+◌, ◌<◌, ◌^◌}
use mathlib.Core.Path.{◌≡◌, sym, ap, ◌∙◌}
use native.Mathlib.{Nat.{lt_of_le_of_lt}, Omega.{arith}}
use lib.IntN.{ℤ, pos, nat_abs, ◌-ℤ◌, +ℤ_idl}
use mir.{Syntax.{w64}, Val.{SFits}, Facts.{to_z_pos, to_z-of_z}}
use Rattle.whole.proofs.{Bits.{small_fits}, Signed.{size_difference}}
use Rattle.c_tell.specs.{Answer.{signed_answer}, Room.{Few}}
use Rattle.c_tell.proofs.signed_answer.Goals as goal
use Rattle.std.specs.Prelude.{Result, Ok}
use Rattle.refusal.specs.{declared.Refused.{Refused}}

small : {a : Result ℕ Refused} {n : ℕ} → Few a → a ≡ Ok n → n < 2 ^ 63
unfolding Few
small {a} {n} f e = rw e at f

difference_fits : (a b : ℤ) → nat_abs a + nat_abs b < 2 ^ 63 → SFits w64 (a -ℤ b)
difference_fits a b h = small_fits (lt_of_le_of_lt (size_difference a b) h)

pub overflow_cast-result : goal.overflow_cast-result
overflow_cast-result c = record { sfits = small c.requires c.in-Ok.is }

pub overflow_sub-result : goal.overflow_sub-result
overflow_sub-result c =
    let h : c.in-Err.field-0.0 < 2 ^ 63 = omega arith in
    rw (to_z_pos w64 h) (difference_fits (pos 0) (pos c.in-Err.field-0.0) (omega arith))

pub returns-in-Ok : goal.returns-in-Ok
unfolding signed_answer
returns-in-Ok c =
    to_z_pos w64 (small c.requires c.in-Ok.is) ∙ ap signed_answer (sym c.in-Ok.is)

pub returns-in-Err : goal.returns-in-Err
unfolding signed_answer
returns-in-Err c =
    let h : c.in-Err.field-0.0 < 2 ^ 63 = omega arith in
    to_z-of_z (overflow_sub-result c) ∙ (rw (to_z_pos w64 h, +ℤ_idl) (ap signed_answer (sym c.in-Err.is)))
