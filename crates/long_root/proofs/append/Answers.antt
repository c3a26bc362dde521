-- `append` takes the greatest digit from a hundred times the remainder.
use Prim.Native.Nat.{◌+◌, ◌*◌, ◌≤◌, ◌^◌}
use native.Mathlib.Omega.{arith}
use lib.Dec.{lit<}
use Rattle.interval.proofs.Fits.{fits_product}
use Rattle.long_root.specs.LongRoot.{IsDigit}
use Rattle.long_root.proofs.{LongRoot.{whole_small, rest_small, digit_room, appended}}
use Rattle.long_root.proofs.append.Goals as goal
use Rattle.long_root.proofs.append.Goals.{After-digit-d, Start}

module _ (c : After-digit-d) where
  abbrev start : Start
  start = (goal.at.After-digit-d c).Start

  is_digit : IsDigit start.args.r.whole (100 * start.args.r.rest) start.args.injected c.digit-d.result
  is_digit = c.digit-d.ensures

pub overflow_mul-rest : goal.overflow_mul-rest
overflow_mul-rest c = record { fits = omega (arith, rest_small c.requires) }

pub digit-d-requires : goal.digit-d-requires
digit-d-requires c = digit_room c.requires

pub overflow_mul-result : goal.overflow_mul-result
overflow_mul-result c = record { fits = omega (arith, whole_small (start (goal.at.overflow_mul-result c).After-digit-d).requires) }

pub overflow_add-result : goal.overflow_add-result
overflow_add-result c = record { fits = omega (arith, whole_small (start (goal.at.overflow_add-result c).After-digit-d).requires, (is_digit (goal.at.overflow_add-result c).After-digit-d).single) }

pub overflow_mul-result-2 : goal.overflow_mul-result-2
overflow_mul-result-2 c = record { fits = omega (arith, whole_small (start (goal.at.overflow_mul-result-2 c).After-digit-d).requires) }

pub overflow_add-result-2 : goal.overflow_add-result-2
overflow_add-result-2 c = record { fits = omega (arith, whole_small (start (goal.at.overflow_add-result-2 c).After-digit-d).requires, (is_digit (goal.at.overflow_add-result-2 c).After-digit-d).single) }

pub overflow_mul-result-3 : goal.overflow_mul-result-3
overflow_mul-result-3 c =
    let a : 20 * (start (goal.at.overflow_mul-result-3 c).After-digit-d).args.r.whole + c.digit-d.result ≤ 2 ^ 57 = omega (arith, whole_small (start (goal.at.overflow_mul-result-3 c).After-digit-d).requires, (is_digit (goal.at.overflow_mul-result-3 c).After-digit-d).single) in
    let b : c.digit-d.result ≤ 10 = omega (arith, (is_digit (goal.at.overflow_mul-result-3 c).After-digit-d).single) in
    fits_product a b (lit< tt)

pub overflow_mul-result-4 : goal.overflow_mul-result-4
overflow_mul-result-4 c = record { fits = omega (arith, (is_digit (goal.at.overflow_mul-result-4 c).After-digit-d).low, rest_small (start (goal.at.overflow_mul-result-4 c).After-digit-d).requires) }

pub returns : goal.returns
returns c = appended (start (goal.at.returns c).After-digit-d).requires (is_digit (goal.at.returns c).After-digit-d)
