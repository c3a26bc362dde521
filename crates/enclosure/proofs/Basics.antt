-- What an interval encloses by itself: fractions, a wider interval, another scale.
use Prim.Native.Nat.{ℕ, ◌*◌}
use mathlib.Core.Path.{◌≡◌}
use lib.{IntN.{ℤ, pos}, Dec.{lit≤}, Signed.{◌≤ℤ◌}}
use Rattle.interval.specs.{Operations.{point, outward_of}, declared.Interval.{Interval}}
use Rattle.exact.specs.{Fraction.{Fraction, ◌≤f◌, ◌≈f◌, whole, decimal}, Exact.{Exact, exactly, Holds}}
use Rattle.exact.specs.{Depth.{work_depth, Consistent, Within, Proper, SameEnds}, Reported.{Scale, ten, over, reported}}
use Rattle.exact.proofs.{Consistency.{proper_at}, Holding.{holds_depth}}
use Rattle.exact.proofs.Inclusion.{within_exactly, within_same, within_trans, proper_within}
use Rattle.enclosure.specs.Enclosure.{Encloses}
use Rattle.enclosure.proofs.Counts.{over_le, over_floor, over_ceil, whole_count, decimal_count}

-- "A reported pair holds the exact value": at every depth
pub holds : {x : Exact} {u : Scale} {i : Interval} → Consistent x → Encloses x u i → Holds (reported u i) x
holds c e = holds_depth c (lit≤ tt) e.within

-- the ends of what encloses a value are in order
module _ {x : Exact} {u : Scale} {i : Interval} (c : Consistent x) (e : Encloses x u i) where
  pub encloses_proper : Proper (reported u i)
  encloses_proper = proper_within (proper_at c (lit≤ tt)) e.within

  pub encloses_ordered : i.lower ≤ℤ i.upper
  unfolding reported
  encloses_ordered = over_le u encloses_proper.proper

-- a value with the same ends at the depth of code
pub encloses_same : {x y : Exact} {u : Scale} {i : Interval} → SameEnds (y work_depth) (x work_depth) → Encloses x u i → Encloses y u i
encloses_same s e = record { within = within_trans (within_same s) e.within }

-- ---- fractions

pub encloses_exactly : {q : Fraction} {u : Scale} {i : Interval} → over i.lower u ≤f q → q ≤f over i.upper u
    → Encloses (exactly q) u i
unfolding reported
encloses_exactly l h = record { within = within_exactly work_depth (record { low = l; high = h }) }

pub encloses_count : {q : Fraction} (z : ℤ) (u : Scale) → q ≈f over z u → Encloses (exactly q) u (point z)
unfolding point
encloses_count z u s = encloses_exactly s.fro s.to

pub encloses_whole : (n : ℕ) {m : ℕ} (u : Scale) → m ≡ n * u.count → Encloses (exactly (whole n)) u (point (pos m))
encloses_whole n u e = encloses_count _ u (whole_count n u e)

-- n · 10^−e in a unit k times as fine
pub encloses_decimal : (n e k : ℕ) {m : ℕ} (u : Scale) → (ten e).count * k ≡ u.count → m ≡ n * k
    → Encloses (exactly (decimal n e)) u (point (pos m))
encloses_decimal n e k u f g = encloses_count _ u (decimal_count n e k u f g)

-- ---- wider, finer, coarser

encloses_within : {x : Exact} {u w : Scale} {i j : Interval} → Within (reported u i) (reported w j) → Encloses x u i → Encloses x w j
encloses_within h e = record { within = within_trans e.within h }

module _ {x : Exact} {u : Scale} {i : Interval} (w : Scale) where
  -- in a unit den times as coarse
  pub encloses_outward : (den : ℕ) → w.count * den ≡ u.count → Encloses x u i → Encloses x w (outward_of i den)
  unfolding reported outward_of
  encloses_outward den s e = encloses_within (record { low = over_floor i.lower u w den s; high = over_ceil i.upper u w den s }) e
