-- The apparent resistivity of readings, and its least, greatest and mean over a list that is not empty, are one number each.
use Prim.Native.Nat.{ℕ, ◌≤◌}
use mathlib.Core.List.{List, [], ◌∷◌}
use native.Mathlib.Omega.{arith}
use lib.ListN.{length}
use Rattle.exact.specs.{Fraction.{Fraction, ◌≤f◌, whole, ◌+f◌, minf, maxf}, Exact.{Exact, ◌+x◌}}
use Rattle.exact.proofs.Order.{refl≤, trans≤, whole_pos, min_left, min_right, min_cases, max_left, max_right, max_cases}
use Rattle.exact.proofs.{Sums.{le+, add_comm}, Products.{add_mul}, Positive.{positive_exactly}}
use Rattle.readings.specs.{Reading.{Reading}, Resistivity.{apparent, lesser, greater, together, least, greatest, mean}}
use Rattle.readings.proofs.{Extremes.{consistent_lesser, consistent_greater}, Extent.{kept}}
use Rattle.numbers.specs.{Number.{Near, Narrows, Number}, Formulas.{ReadingNumbers}}
use Rattle.numbers.proofs.{Near.{near_more, near_between}, Units.{unit, units_nonneg}, Narrow.{narrow_at, narrows_by}}
use Rattle.numbers.proofs.Rules.{number_exactly, number_π, number_sum, number_product, number_quotient}

-- ---- the lesser and the greater of two

module _ {v w a b c d : Fraction} (nv : whole 0 ≤f v) (nw : whole 0 ≤f w) (h : Near v a b) (k : Near w c d) where
  first_near : Near (v +f w) a b
  first_near = near_more h (le+ nw)

  second_near : Near (v +f w) c d
  second_near = near_more k (trans≤ (le+ nv) (add_comm w v).to)

  lesser_near : Near (v +f w) (minf a c) (minf b d)
  lesser_near =
      min_cases (λ m. Near (v +f w) m (minf b d)) (λ _. near_between first_near (refl≤ a) (min_left b d))
      (λ _. near_between second_near (refl≤ c) (min_right b d))

  greater_near : Near (v +f w) (maxf a c) (maxf b d)
  greater_near =
      max_cases (λ m. Near (v +f w) (maxf a c) m) (λ _. near_between first_near (max_left a c) (refl≤ b))
      (λ _. near_between second_near (max_right a c) (refl≤ d))

module _ {x y : Exact} (a : Number x) (b : Number y) where
  -- a law of two pairs of near ends, at the ends of x and y at each depth
  both_narrow : {z : Exact} → ((k : ℕ) (v w : Fraction) → whole 0 ≤f v → whole 0 ≤f w → Near v (x k).lower (x k).upper
      → Near w (y k).lower (y k).upper → Near (v +f w) (z k).lower (z k).upper) → Narrows z
  both_narrow law =
      let m = a.narrows.rate in
      let n = b.narrows.rate in
      narrows_by (whole m +f whole n)
      (λ k d.
      near_more (law k _ _ (units_nonneg m k) (units_nonneg n k) (narrow_at a.narrows d) (narrow_at b.narrows d))
      (add_mul (whole m) (whole n) (unit k)).fro)

  number_lesser : Number (lesser x y)
  unfolding lesser
  number_lesser = record { consistent = consistent_lesser a.consistent b.consistent; narrows = both_narrow (λ k v w. lesser_near) }

  number_greater : Number (greater x y)
  unfolding greater
  number_greater = record { consistent = consistent_greater a.consistent b.consistent; narrows = both_narrow (λ k v w. greater_near) }

-- ---- over a list

number_apparent : (p : Reading) → Number (apparent p)
unfolding apparent
number_apparent p = number_product (number_product (number_product (number_exactly _) number_π) (number_exactly _)) (number_exactly _)

number_together : (op : Exact → Exact → Exact) → ((x y : Exact) → Number x → Number y → Number (op x y)) → (p : Reading) (ps : List Reading)
    → Number (together op (p ∷ ps))
number_together op joins p ps = kept op Number joins p ps (λ q m. number_apparent q)

pub reading_numbers : (ps : List Reading) → 1 ≤ length ps → ReadingNumbers ps
unfolding least greatest mean
reading_numbers [] h = absurd (omega arith)
reading_numbers (p ∷ ps) h =
    record {
      apparent = number_apparent;
      least = number_together lesser (λ x y a b. number_lesser a b) p ps;
      greatest = number_together greater (λ x y a b. number_greater a b) p ps;
      mean = number_quotient (number_together ◌+x◌ (λ x y a b. number_sum a b) p ps) (number_exactly _) (positive_exactly (whole_pos h));
    }
