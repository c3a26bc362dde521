-- `in_proportion` keeps within 64 bits by its test of what is tolerable.
use native.Mathlib.Omega.{arith}
use lib.Dec.{lit<}
use Rattle.interval.proofs.Fits.{fits_product}
use Rattle.headroom.proofs.guess.in_proportion.Goals as goal

pub overflow_mul-share : goal.overflow_mul-share
overflow_mul-share c = fits_product {m = 4294967295} {n = 1000000000} (omega arith) (omega arith) (lit< tt)
