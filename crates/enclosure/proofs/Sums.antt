-- Sums, differences and whole multiples.
use Prim.Native.Nat.{ℕ}
use lib.Dec.{lit≤}
use Rattle.interval.specs.{Operations.{sum_of, difference_of, minus_of, scaled_of}, declared.Interval.{Interval}}
use Rattle.exact.specs.{Fraction.{whole}, Ends.{minus_ends}, Exact.{Exact, exactly, ◌+x◌, ◌−x◌, ◌·x◌}, Depth.{work_depth, Consistent, Within}}
use Rattle.exact.{specs.Reported.{Scale, reported}, proofs.{Order.{trans≤, nonneg}, Products.{mul_left≤}, Consistency.{proper_at}}}
use Rattle.exact.proofs.Inclusion.{within_sum, within_difference, within_trans, within_same}
use Rattle.exact.proofs.KnownEnds.{sum_ends, difference_ends, sum_ends_lem, difference_ends_lem, scaled_ends_lem}
use Rattle.exact.proofs.Reported.{over_neg, over_sum, over_difference}
use Rattle.enclosure.specs.Enclosure.{Encloses}
use Rattle.enclosure.proofs.{Counts.{over_times}, Basics.{encloses_proper}}

module _ (u : Scale) (a b : Interval) where
  sum_within : Within (sum_ends (reported u a) (reported u b)) (reported u (sum_of a b))
  unfolding reported sum_of
  sum_within = record { low = (over_sum a.lower b.lower u).to; high = (over_sum a.upper b.upper u).fro }

  difference_within : Within (difference_ends (reported u a) (reported u b)) (reported u (difference_of a b))
  unfolding reported difference_of
  difference_within = record { low = (over_difference a.lower b.upper u).to; high = (over_difference a.upper b.lower u).fro }

module _ {x y : Exact} {u : Scale} {a b : Interval} (cx : Consistent x) (cy : Consistent y) (ex : Encloses x u a)
    (ey : Encloses y u b) where
  pub encloses_sum : Encloses (x +x y) u (sum_of a b)
  encloses_sum =
      record {
        within =
            within_trans (within_sum cx cy (lit≤ tt) ex.within ey.within)
            (within_trans (within_same (sum_ends_lem (encloses_proper cx ex) (encloses_proper cy ey))) (sum_within u a b));
      }

  pub encloses_difference : Encloses (x −x y) u (difference_of a b)
  encloses_difference =
      record {
        within =
            within_trans (within_difference cx cy (lit≤ tt) ex.within ey.within)
            (within_trans (within_same (difference_ends_lem (encloses_proper cx ex) (encloses_proper cy ey))) (difference_within u a b));
      }

-- k times a value, in the same unit
pub encloses_times : {x : Exact} {u : Scale} {a : Interval} (k : ℕ) → Consistent x → Encloses x u a
    → Encloses (exactly (whole k) ·x x) u (scaled_of a k)
unfolding reported scaled_of ◌·x◌
encloses_times {x} {u} {a} k c e =
    let s = scaled_ends_lem work_depth (nonneg k) (proper_at c (lit≤ tt)) in
    record {
      within =
          within_trans (within_same s)
          (record {
            low = trans≤ (over_times a.lower u k).to (mul_left≤ (nonneg k) e.within.low);
            high = trans≤ (mul_left≤ (nonneg k) e.within.high) (over_times a.upper u k).fro;
          });
    }

-- minus a value
pub minus_within : (u : Scale) (a : Interval) → Within (minus_ends (reported u a)) (reported u (minus_of a))
unfolding minus_ends reported minus_of
minus_within u a = record { low = (over_neg a.upper u).to; high = (over_neg a.lower u).fro }
