-- The report on a list that is not refused is right: each pair of ends encloses its exact value and is narrow.
use Prim.Native.Nat.{ℕ, ◌*◌, ◌^◌, ◌≤◌, ◌<◌}
use mathlib.Core.{Path.{◌≡◌, refl, ap}, List.{List, [], ◌∷◌}}
use native.Mathlib.Omega.{arith}
use lib.{Dec.{lit<}, IntN.{ℤ}, ListN.{length}}
use Rattle.whole.specs.Signed.{plus, minus}
use Rattle.interval.{specs.{declared.Interval.{Interval}, Operations.{outward_of}}, proofs.Natural.{natural_outward}}
use Rattle.exact.specs.{Fraction.{◌≈f◌, whole, inv, ◌·f◌}, Exact.{Exact, exactly, ◌·x◌, ◌÷x◌}, Depth.{work_depth, Consistent, SameEnds}}
use Rattle.exact.{specs.Reported.{Scale, ten, over, Reports}, proofs.{Order.{whole_pos}, Reported.{scale_product}}}
use Rattle.exact.proofs.{Quotients.{clamped, inv_nonneg}, Consistency.{consistent_exactly, consistent_quotient}}
use Rattle.exact.proofs.{Positive.{positive_exactly}, Alike.{quotient_product}, KnownEnds.{same_trans}, Factors.{product_turned}}
use Rattle.enclosure.{specs.Enclosure.{Encloses}, proofs.{Basics.{encloses_same, encloses_outward}, Multiples.{encloses_rounded}}}
use Rattle.enclosure.proofs.Reporting.{reports}
use Rattle.readings.specs.{Reading.{Reading, pairs_of}, Taken.{Bounded, Taken}, Resistivity.{least, greatest, mean}}
use Rattle.readings.specs.{Report.{μΩm, width, RightReport}, Ends.{products_of, two_pi_below, two_pi_above, two_pi_unit, ends_of, report_of}}
use Rattle.readings.proofs.{Spans.{unit_pos, ends_are, ends_narrow}, Extremes.{fine, two_pi_times}}
use Rattle.readings.proofs.Enclosed.{least_joined, greatest_joined, sum_joined}

-- ---- a value over a count

module _ {c : ℕ} (h : 0 < c) where
  times : Scale → Scale
  times u = scale_product u (record { count = c; positive = h })

  over_divided : (z : ℤ) (u : Scale) → over z (times u) ≈f inv (whole c) ·f over z u
  unfolding over inv whole ◌·f◌ times
  over_divided z u =
      let e = clamped h in
      omega (arith, ap (λ t. plus z * u.count * t) e, ap (λ t. minus z * u.count * t) e)

  divided_same : (x : Exact) → SameEnds ((x ÷x exactly (whole c)) work_depth) ((exactly (inv (whole c)) ·x x) work_depth)
  unfolding ◌÷x◌ ◌·x◌ exactly
  divided_same x = same_trans (quotient_product _ _) (product_turned _ _)

  -- the same ends, in a unit c times as fine
  divided_encloses : {x : Exact} {u : Scale} {i : Interval} → Consistent x → Encloses x u i → Encloses (x ÷x exactly (whole c)) (times u) i
  divided_encloses {x} {u} {i} cx e =
      encloses_same (divided_same x)
      (encloses_rounded (inv (whole c)) (inv_nonneg (whole c)) (over_divided i.lower u).to (over_divided i.upper u).fro cx e)

-- ---- in micro-ohm metres, rounded outward

outward_is : (s : ℕ) {count : ℕ} → 0 < count → outward_of (two_pi_times s) (count * two_pi_unit) ≡ ends_of s count
outward_is s h = rw (ends_are s h) (natural_outward (two_pi_below * s) (two_pi_above * s) (unit_pos s h))

module _ {x : Exact} (s : ℕ) {count : ℕ} (u : Scale) (h : 0 < count) (e : 10 ^ 6 * (count * two_pi_unit) ≡ u.count) (cx : Consistent x)
    (ex : Encloses x u (two_pi_times s)) where
  ends_report : Reports x μΩm width (ends_of s count)
  unfolding μΩm ten
  ends_report = reports width cx (rw (outward_is s h) at (encloses_outward (ten 6) (count * two_pi_unit) e ex)) (ends_narrow s h)

-- ---- the report

module _ (p : Reading) (ps : List Reading) (b : Bounded (p ∷ ps)) where
  some : 0 < length (p ∷ ps)
  some = omega arith

  right_pairs : RightReport (p ∷ ps) (report_of (p ∷ ps))
  unfolding report_of least greatest mean ten times
  right_pairs =
      let l = least_joined p ps b in
      let g = greatest_joined p ps b in
      let t = sum_joined p ps b in
      let n = length (p ∷ ps) in
      record {
        least = ends_report (products_of (p ∷ ps)).least fine (lit< tt) refl l.consistent l.encloses;
        greatest = ends_report (products_of (p ∷ ps)).greatest fine (lit< tt) refl g.consistent g.encloses;
        mean =
            ends_report (products_of (p ∷ ps)).total (times some fine) some (omega arith)
            (consistent_quotient (positive_exactly (whole_pos some)) t.consistent (consistent_exactly (whole n)))
            (divided_encloses some t.consistent t.encloses);
        soil = refl;
      }

pub right_report : {numbers : List ℕ} → Taken numbers → RightReport (pairs_of numbers) (report_of (pairs_of numbers))
right_report {numbers} t = go (pairs_of numbers) t.some t.bounded
  where
    go : (ps : List Reading) → 1 ≤ length ps → Bounded ps → RightReport ps (report_of ps)
    go [] h b = absurd (omega arith)
    go (p ∷ ps) h b = right_pairs p ps b
