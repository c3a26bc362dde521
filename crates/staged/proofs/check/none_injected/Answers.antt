-- `none_injected` looks at the first two numbers, which the count lets be there.
use native.Mathlib.Omega.{arith}
use Rattle.std.proofs.lemmas.{Grind.{common_steps}, Bool.Decides.{nat_tests}}
use Rattle.staged.specs.Check.{fewest_numbers, none_injected}
use Rattle.staged.proofs.{Checks.{count_low, zero_bits}}
use Rattle.staged.proofs.check.none_injected.Goals as goal

pub bounds-parts-0 : goal.bounds-parts-0
unfolding fewest_numbers
bounds-parts-0 c = omega (arith, count_low _ c.requires)

pub bounds-parts-1 : goal.bounds-parts-1
unfolding fewest_numbers
bounds-parts-1 c = omega (arith, count_low _ c.requires)

pub returns-then-parts-eq0 : goal.returns-then-parts-eq0
unfolding none_injected
returns-then-parts-eq0 c = grind (arith, common_steps, nat_tests, zero_bits)

pub returns-else-parts-eq0 : goal.returns-else-parts-eq0
unfolding none_injected
returns-else-parts-eq0 c = grind (arith, common_steps, nat_tests, zero_bits)
