-- `logarithm::argument::halve` meets its contract: the logarithms of p and q to base 2 show how much longer p is.
use Prim.Native.Nat.{◌-◌, ◌*◌, ◌%◌, ◌^◌}
use mathlib.Core.Path.{◌≡◌}
use native.Mathlib.{Omega.{arith}, Nat.{mod-eq_of_lt}}
use Rattle.logarithm.proofs.Ratio.{Log, log≤, raised, whole_known, half_known}
use Rattle.logarithm.proofs.argument.halve.Goals as goal
use Rattle.logarithm.proofs.argument.halve.Goals.{After-ilog2-2}

module _ (s : After-ilog2-2) where
  of_p : Log s.args.p s.ilog2.result
  of_p = record { low = s.ilog2.ensures.power_le; high = s.ilog2.ensures.next_power_gt }

  of_q : Log s.args.q s.ilog2-2.result
  of_q = record { low = s.ilog2-2.ensures.power_le; high = s.ilog2-2.ensures.next_power_gt }

  -- the shift loses nothing
  base_is :
      let b = s.args.q * 2 ^ (s.ilog2.result - s.ilog2-2.result) in
      b % 18446744073709551616 ≡ b
  base_is = mod-eq_of_lt (omega (arith, (raised s.requires.1.0.low s.requires.1.1 of_q of_p).0, of_p.low, s.requires.0.high))

pub overflow_sub-times : goal.overflow_sub-times
overflow_sub-times c =
    let s = (goal.at.overflow_sub-times c).After-ilog2-2 in
    log≤ c.requires.1.0.low c.requires.1.1 (of_q s) (of_p s)

pub returns-then-base-p : goal.returns-then-base-p
returns-then-base-p c =
    let s = (goal.at.returns-then-base-p c).After-ilog2-2 in
    let w = whole_known c.requires.1.0.low c.requires.1.1 (of_q s) (of_p s) (rw (base_is s) at c.if-base-p.true) in
    cc (base_is s, w.0, w.1)

pub returns-else-base-p : goal.returns-else-base-p
returns-else-base-p c =
    let s = (goal.at.returns-else-base-p c).After-ilog2-2 in
    let h = half_known c.requires.1.0.low c.requires.1.1 (of_q s) (of_p s) (rw (base_is s) at c.if-base-p.false) in
    cc (base_is s, h.1.0, h.1.1)
