-- `load` is the product of I and Kf. Every metal of a case has its Kf.
use mathlib.Core.Path.{◌≡◌}
use lib.Dec.{lit<}
use Rattle.formulas.{specs.Size.{duty, Kf}, proofs.Size.{kf_bounds}}
use Rattle.current.proofs.{GridCurrent.{upper_bounds}, Metals.{kf_found, kf_missing}}
use Rattle.interval.proofs.Fits.{fits_triple}
use Rattle.current.proofs.size.load.Goals as goal
use Rattle.current.proofs.size.load.Goals.{In-Some}

pub returns-in_default : goal.returns-in_default
returns-in_default c = absurd (kf_missing c.requires.bounds.metal c.kf.ensures c.in_default.is)

-- the number found is Kf of the case's metal
kf_is : (c : In-Some) → c.in-Some.kf ≡ Kf c.args.c.metal
kf_is c = kf_found c.requires.bounds.metal c.kf.ensures c.in-Some.is

pub overflow_mul-result : goal.overflow_mul-result
overflow_mul-result c =
    let b = c.requires.bounds in
    rw (c.fault_current-current.ensures, kf_is (goal.at.overflow_mul-result c).In-Some)
    (fits_triple b.fault.high (upper_bounds b).high (kf_bounds b.metal).high (lit< tt))

pub returns : goal.returns
unfolding duty
returns c = rw (c.fault_current-current.ensures, kf_is (goal.at.returns c).In-Some)
