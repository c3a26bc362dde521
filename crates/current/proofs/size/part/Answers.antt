-- `part` keeps within 64 bits.
use native.Mathlib.Nat.{le_of_lt}
use lib.Dec.{lit<}
use Rattle.interval.proofs.Fits.{fits_product, fits_triple}
use Rattle.current.proofs.size.part.Goals as goal

pub overflow_mul-result : goal.overflow_mul-result
overflow_mul-result c = fits_product (le_of_lt c.requires.p_bound) (le_of_lt c.requires.q_bound) (lit< tt)

pub overflow_mul-result-2 : goal.overflow_mul-result-2
overflow_mul-result-2 c = fits_triple (le_of_lt c.requires.p_bound) (le_of_lt c.requires.q_bound) c.requires.ms_bound (lit< tt)
