-- `exponential::near_ends` meets its contract: its numbers are small enough.
use Prim.Native.Nat.{◌*◌, ◌/◌, ◌^◌, ◌≤◌, min}
use native.Mathlib.{Omega.{arith}, Nat.{add-zero, le_refl, min-le_right, pow-le-pow_right}}
use lib.Dec.{lit≤}
use Rattle.exponential.specs.Ends.{unit, argument_of, inverse_of, end_of, error_of, gap_of, near_ends}
use Rattle.exponential.proofs.Sizes.{halvings_few, argument_size, series_least, inverse_most, squared_below}
use Rattle.exponential.proofs.near_ends.Goals as goal
use Rattle.exponential.proofs.near_ends.Goals.{After-error, After-halve-j, After-series-s}

-- the argument, and the squarings
small : (c : After-halve-j)
    → let j = c.halve-j.result in
    (4 * c.args.b / 2 ^ j ≤ 2000000000) × (j ≤ 14)
small c = rw c.halve-j.ensures (argument_size (le_refl c.args.b), halvings_few c.requires.1)

pub overflow_shr-b : goal.overflow_shr-b
overflow_shr-b c = omega (arith, small (goal.at.overflow_shr-b c).After-halve-j)

pub series-s-requires : goal.series-s-requires
series-s-requires c = omega (arith, small (goal.at.series-s-requires c).After-halve-j)

series_low : (c : After-series-s) → unit ≤ c.series-s.result
series_low c = rw c.series-s.ensures (series_least _ _)

pub nonzero_div-s : goal.nonzero_div-s
nonzero_div-s c = omega (arith, series_low (goal.at.nonzero_div-s c).After-series-s)

pub squared-l-requires : goal.squared-l-requires
squared-l-requires c = (inverse_most (series_low (goal.at.squared-l-requires c).After-series-s), (small (goal.at.squared-l-requires c).After-halve-j).1)

-- what the calculation can err by
few : (c : After-error) → c.error.result ≤ 46
unfolding error_of
few c =
    let k : 2 ^ min _ 2 ≤ 2 ^ 2 = pow-le-pow_right (lit≤ tt) (min-le_right c.halve-j.result 2) in
    rw c.error.ensures (omega (arith, k))

pub overflow_add-b-2 : goal.overflow_add-b-2
overflow_add-b-2 c = omega (arith, few (goal.at.overflow_add-b-2 c).After-error, c.requires.1)

pub pair-requires : goal.pair-requires
pair-requires c = (
  rw c.squared-l.ensures (squared_below (inverse_most (series_low (goal.at.pair-requires c).After-series-s)) _),
  omega (arith, few (goal.at.pair-requires c).After-error, c.requires.1),
)

pub returns : goal.returns
unfolding near_ends end_of inverse_of argument_of gap_of
returns c =
    rw (c.pair.ensures, c.error.ensures, c.squared-l.ensures, c.series-s.ensures, c.halve-j.ensures, add-zero)
