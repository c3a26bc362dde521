-- `logarithm::terms::end` meets its contract.
use Prim.Native.Nat.{◌≤◌}
use native.Mathlib.{Omega.{arith}, Nat.{add-zero}}
use Rattle.logarithm.specs.Ends.{doublings, near_of, end_of}
use Rattle.logarithm.proofs.{Sizes.{near_size}}
use Rattle.logarithm.proofs.terms.end.Goals as goal
use Rattle.logarithm.proofs.terms.end.Goals.{After-series}

sum_size : (c : After-series) → c.series.result ≤ 9000000037
sum_size c =
    let s = c.requires in
    rw c.series.ensures (omega (arith, near_size {up = 0} (omega arith) s.0 s.1))

pub overflow_mul-result-2 : goal.overflow_mul-result-2
overflow_mul-result-2 c = omega (arith, sum_size (goal.at.overflow_mul-result-2 c).After-series)

pub returns : goal.returns
unfolding end_of doublings near_of
returns c = rw c.series.ensures (simp add-zero)
