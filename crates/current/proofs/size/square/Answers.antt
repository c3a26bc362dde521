-- `square` adds up the parts of the square from the lowest; each keeps within 64 bits.
use Prim.Native.Nat.{◌*◌}
use mathlib.Core.Path.{◌≡◌}
use native.Mathlib.Omega.{arith}
use lib.Dec.{lit<}
use Rattle.current.specs.Size.{square_of}
use Rattle.current.proofs.SquareLoad.{part_small, lowest, low, middle, high, lowest_small, low_small, middle_small, high_small}
use Rattle.current.proofs.size.square.Goals as goal
use Rattle.current.proofs.size.square.Goals.{After-carried, After-carried-low, After-carried-lowest, After-carried-middle}

-- what is carried is as named
lowest_is : (c : After-carried-lowest) → let a = c.args in c.carried-lowest.result ≡ lowest a.u a.v a.w a.ms
unfolding lowest
lowest_is c = rw (c.carried-lowest.ensures, c.part.ensures)

low_is : (c : After-carried-low)
    → let a = c.args in c.carried-low.result ≡ low a.u a.v a.w a.ms
unfolding low
low_is c = rw (c.carried-low.ensures, c.part-2.ensures, lowest_is (goal.at.After-carried-low c).After-carried-lowest)

middle_is : (c : After-carried-middle)
    → let a = c.args in c.carried-middle.result ≡ middle a.u a.v a.w a.ms
unfolding middle
middle_is c = rw (c.carried-middle.ensures, c.part-4.ensures, c.part-3.ensures, low_is (goal.at.After-carried-middle c).After-carried-low)

high_is : (c : After-carried)
    → let a = c.args in c.carried.result
    ≡ high a.u a.v a.w a.ms
unfolding high
high_is c = rw (c.carried.ensures, c.part-6.ensures, middle_is (goal.at.After-carried c).After-carried-middle)

pub carried-lowest-requires : goal.carried-lowest-requires
carried-lowest-requires c =
    let p = c.requires in
    rw c.part.ensures (record { n_bound = omega (arith, part_small {p = c.args.w} (omega (arith, p.lower)) p.lower p.time); below_bound = lit< tt })

pub carried-low-requires : goal.carried-low-requires
carried-low-requires c =
    let a = c.args in
    let p = c.requires in
    rw (c.part-2.ensures, lowest_is (goal.at.carried-low-requires c).After-carried-lowest) (record {
      n_bound = omega (arith, part_small {p = 2 * a.v} (omega (arith, p.middle)) p.lower p.time);
      below_bound = omega (arith, lowest_small a.u a.v a.w a.ms p);
    })

-- the two parts of the middle
pub overflow_add-part : goal.overflow_add-part
overflow_add-part c =
    let a = c.args in
    let p = c.requires in
    rw (c.part-4.ensures, c.part-3.ensures)
    (record {
      fits = omega (
        arith,
        part_small {p = 2 * a.u} (omega (arith, p.upper)) p.lower p.time,
        part_small {p = a.v}
            (omega (arith, p.middle)) p.middle p.time,
      );
    })

pub carried-middle-requires : goal.carried-middle-requires
carried-middle-requires c =
    let a = c.args in
    let p = c.requires in
    rw (c.part-4.ensures, c.part-3.ensures, low_is (goal.at.carried-middle-requires c).After-carried-low) (record {
      n_bound = omega (
        arith,
        part_small {p = 2 * a.u} (omega (arith, p.upper)) p.lower p.time,
        part_small {p = a.v}
            (omega (arith, p.middle)) p.middle p.time,
      );
      below_bound = omega (arith, low_small a.u a.v a.w a.ms p);
    })

pub carried-requires : goal.carried-requires
carried-requires c =
    let a = c.args in
    let p = c.requires in
    rw (c.part-6.ensures, middle_is (goal.at.carried-requires c).After-carried-middle) (record {
      n_bound = omega (arith, part_small {p = 2 * a.u} (omega (arith, p.upper)) p.middle p.time);
      below_bound = omega (arith, middle_small a.u a.v a.w a.ms p);
    })

pub overflow_add-result : goal.overflow_add-result
overflow_add-result c =
    let a = c.args in
    let p = c.requires in
    rw (c.part-5.ensures, high_is (goal.at.overflow_add-result c).After-carried)
    (record {
      fits = omega (
        arith,
        part_small {p = a.u} (omega (arith, p.upper)) p.upper p.time,
        high_small a.u a.v a.w
            a.ms p,
      );
    })

pub returns : goal.returns
unfolding square_of lowest low middle high
returns c = rw (high_is (goal.at.returns c).After-carried, c.part-5.ensures)
