-- `per_mille` appends three digits to the root, and rounds up.
use Prim.Native.Nat.{◌*◌}
use mathlib.Core.Path.{◌≡◌}
use native.Mathlib.Omega.{arith}
use Rattle.long_root.specs.LongRoot.{radicand}
use Rattle.long_root.proofs.{RoundedUp.{exact_split, next_split, split_small}}
use Rattle.long_root.proofs.per_mille.Goals as goal
use Rattle.long_root.proofs.per_mille.Goals.{After-append-one, After-append-three, After-append-two, After-begin}

-- what each root is the root of
no_digit : (c : After-begin) → radicand c.args.injected c.begin.result ≡ 1 * c.args.grid
no_digit c = omega (arith, c.begin.ensures.of_grid)

one_digit : (c : After-append-one) → radicand c.args.injected c.append-one.result ≡ 100 * c.args.grid
one_digit c = omega (arith, c.append-one.ensures.more, no_digit (goal.at.After-append-one c).After-begin)

two_digits : (c : After-append-two)
    → radicand c.args.injected c.append-two.result ≡ 10000 * c.args.grid
two_digits c = omega (arith, c.append-two.ensures.more, one_digit (goal.at.After-append-two c).After-append-one)

three_digits : (c : After-append-three)
    → radicand c.args.injected c.append-three.result
    ≡ 1000000 * c.args.grid
three_digits c = omega (arith, c.append-three.ensures.more, two_digits (goal.at.After-append-three c).After-append-two)

pub overflow_add-result : goal.overflow_add-result
overflow_add-result c =
    record { fits = omega (arith, split_small c.append-three.result c.requires c.append-three.ensures.greatest (three_digits (goal.at.overflow_add-result c).After-append-three)) }

pub returns-then-three-eq0 : goal.returns-then-three-eq0
returns-then-three-eq0 c =
    exact_split c.append-three.result c.requires c.append-three.ensures.greatest (three_digits (goal.at.returns-then-three-eq0 c).After-append-three) c.if-three-eq0.true

pub returns-else-three-eq0 : goal.returns-else-three-eq0
returns-else-three-eq0 c =
    next_split c.append-three.result c.requires c.append-three.ensures.greatest (three_digits (goal.at.returns-else-three-eq0 c).After-append-three) c.if-three-eq0.false
