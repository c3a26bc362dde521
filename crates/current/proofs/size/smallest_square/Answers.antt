-- `smallest_square` is the whole root or the next number.
use native.Mathlib.Omega.{arith}
use Rattle.current.proofs.WholeRoot.{root_square, root_small, root_smallest, next_smallest}
use Rattle.current.proofs.size.smallest_square.Goals as goal

pub overflow_mul-root : goal.overflow_mul-root
overflow_mul-root c = record { fits = omega (arith, root_square c.isqrt-root.ensures) }

pub overflow_mul-root-2 : goal.overflow_mul-root-2
overflow_mul-root-2 c = record { fits = omega (arith, root_square c.isqrt-root.ensures) }

pub overflow_add-result : goal.overflow_add-result
overflow_add-result c = omega (arith, root_small c.isqrt-root.ensures c.requires)

pub returns-then-root-t : goal.returns-then-root-t
returns-then-root-t c = next_smallest c.isqrt-root.ensures c.if-root-t.true

pub returns-else-root-t : goal.returns-else-root-t
returns-else-root-t c = root_smallest c.isqrt-root.ensures c.if-root-t.false
