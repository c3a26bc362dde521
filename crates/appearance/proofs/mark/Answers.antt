-- `mark` takes the remainder of a natural number by 2^16.
use Rattle.std.proofs.Common.{zero, suc, ◌≡◌, ◌%◌, refl, arith, ℤ, pos, negsuc, w64, to_z, of_z, FitsSigned, to_z-of_z}
use Rattle.std.specs.Int.{int_max}
use borrow.Author.Tests.{lt-ltb}
use lib.{IntN.{nat_abs}, Signed.{rem_z}}
use Rattle.appearance.specs.Places.{mark_of}
use Rattle.appearance.proofs.mark.Goals as goal

-- the remainder of the station, or of 0 below 0
remainder : (z : ℤ) → FitsSigned w64 z → nat_abs (to_z w64 (of_z w64 (rem_z (to_z w64 (of_z w64 (int_max z (pos 0)))) (pos 65536)))) ≡ mark_of z
unfolding mark_of
remainder (pos zero) f = refl
remainder (pos (suc n)) f =
    let top : int_max (pos (suc n)) (pos 0) ≡ pos (suc n) = rw (lt-ltb 0 (suc n) (omega arith)) in
    let small : FitsSigned w64 (pos (suc n % 65536)) = record { sfits = omega arith } in
    rw (top, to_z-of_z f, to_z-of_z small)
remainder (negsuc n) f = refl

pub returns : goal.returns
returns c = rw (c.max.ensures.value, to_z-of_z c.ranges.station) (remainder c.args.station c.ranges.station)
