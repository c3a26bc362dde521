-- `exponential::error` meets its contract: the shift loses nothing.
use Prim.Native.Nat.{◌*◌, ◌^◌, ◌≤◌, ◌<◌, min}
use native.Mathlib.{Omega.{arith}, Nat.{min-le_right, mod-eq_of_lt, pow-le-pow_right}}
use lib.Dec.{lit≤}
use Rattle.exponential.specs.Ends.{error_of}
use Rattle.exponential.proofs.error.Goals as goal

pub returns : goal.returns
unfolding error_of
returns c =
    let few : 2 ^ min c.args.j 2 ≤ 2 ^ 2 = pow-le-pow_right (lit≤ tt) (min-le_right c.args.j 2) in
    let small : 12 * 2 ^ min c.args.j 2 < 2 ^ 64 = omega (arith, few) in
    rw (c.min.ensures, mod-eq_of_lt small)
