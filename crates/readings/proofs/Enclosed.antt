-- The apparent resistivity of a pair lies between the ends of 2π times a·R, and so do the least, the greatest and the sum over a list.
use Prim.Native.Nat.{ℕ, ◌+◌, ◌*◌, ◌≤◌, min, max}
use mathlib.Core.{Path.{◌≡◌, refl}, List.{List, [], ◌∷◌}}
use native.Mathlib.Omega.{arith}
use lib.Dec.{lit≤}
use Rattle.interval.{specs.{declared.Interval.{Interval}, Operations.{natural, scaled_of}}, proofs.Natural.{natural_sum}}
use Rattle.exact.specs.{Fraction.{whole, decimal, ◌·f◌}, Exact.{Exact, exactly, ◌+x◌, ◌·x◌}, Pi.{π}, Depth.{Consistent}}
use Rattle.exact.{specs.Reported.{Scale, ten, over}, proofs.{Order.{nonneg}, Reported.{decimal_over}}}
use Rattle.exact.proofs.{Consistency.{consistent_exactly, consistent_sum, consistent_product}, Pi.{consistent_π}, Factors.{product_turned}}
use Rattle.enclosure.{specs.{Enclosure.{Encloses}, Pi.{π_ends}}, proofs.{Basics.{encloses_same}, Constants.{π_encloses}}}
use Rattle.enclosure.proofs.{Multiples.{encloses_rounded, encloses_multiple}, Sums.{encloses_sum}}
use Rattle.readings.specs.{Reading.{Reading}, Taken.{most_product, product, Bounded}}
use Rattle.readings.specs.Resistivity.{apparent, lesser, greater, together}
use Rattle.readings.specs.Ends.{with_product, products_of, two_pi_digits, two_pi_below, two_pi_above, two_pi}
use Rattle.readings.proofs.Extremes.{fine, two_pi_times, consistent_lesser, consistent_greater, encloses_lesser, encloses_greater}

-- ---- one pair

consistent_two_pi : Consistent (exactly (whole 2) ·x π)
consistent_two_pi = consistent_product (consistent_exactly (whole 2)) consistent_π

two_pi_encloses : Encloses (exactly (whole 2) ·x π) (ten two_pi_digits) two_pi
unfolding two_pi π_ends natural over ten whole ◌·f◌
two_pi_encloses = encloses_rounded (whole 2) (nonneg 2) (record { le = lit≤ tt }) (record { le = lit≤ tt }) consistent_π π_encloses

-- times n thousandths
by_thousandths : {x : Exact} {u : Scale} {i : Interval} (n : ℕ) (w : Scale) → w.count ≡ (ten 3).count * u.count → Consistent x
    → Encloses x u i → Encloses (x ·x exactly (decimal n 3)) w (scaled_of i n)
unfolding ◌·x◌
by_thousandths n w s c e = encloses_same (product_turned _ _) (encloses_multiple n (ten 3) w s (decimal_over n 3) c e)

pub consistent_apparent : (p : Reading) → Consistent (apparent p)
unfolding apparent
consistent_apparent p =
    consistent_product (consistent_product consistent_two_pi (consistent_exactly (decimal p.distance 3)))
    (consistent_exactly (decimal p.resistance 3))

pub apparent_encloses : (p : Reading) → Encloses (apparent p) fine (two_pi_times (product p))
unfolding apparent product two_pi natural scaled_of ten
apparent_encloses p =
    let a : ℕ = p.distance in
    let R : ℕ = p.resistance in
    let low : two_pi_below * a * R ≡ two_pi_below * (a * R) = omega arith in
    let high : two_pi_above * a * R ≡ two_pi_above * (a * R) = omega arith in
    rw (low, high) at
    (by_thousandths R fine refl (consistent_product consistent_two_pi (consistent_exactly (decimal a 3)))
    (by_thousandths a (ten (two_pi_digits + 3)) refl consistent_two_pi two_pi_encloses))

-- ---- a list

-- an operation on exact values goes with one on counts
pub record Joins (op : Exact → Exact → Exact) (f : ℕ → ℕ → ℕ) : Type 0 where
  pub consistent : {x y : Exact} → Consistent x → Consistent y → Consistent (op x y)
  pub encloses : {x y : Exact} (a b : ℕ) → Consistent x → Consistent y → Encloses x fine (two_pi_times a) → Encloses y fine (two_pi_times b)
      → Encloses (op x y) fine (two_pi_times (f a b))

lesser_joins : Joins lesser min
lesser_joins = record { consistent = consistent_lesser; encloses = λ a b cx cy ex ey. encloses_lesser a b ex ey }

greater_joins : Joins greater max
greater_joins = record { consistent = consistent_greater; encloses = λ a b cx cy ex ey. encloses_greater a b ex ey }

sum_joins : Joins ◌+x◌ ◌+◌
sum_joins =
    record {
      consistent = consistent_sum;
      encloses = λ a b cx cy ex ey.
          let low : two_pi_below * a + two_pi_below * b ≡ two_pi_below * (a + b) = omega arith in
          let high : two_pi_above * a + two_pi_above * b ≡ two_pi_above * (a + b) = omega arith in
          rw (natural_sum (two_pi_below * a) (two_pi_above * a) (two_pi_below * b) (two_pi_above * b), low, high) at (encloses_sum cx cy ex ey);
    }

-- the pairs taken together, against a count that joins theirs
pub record Joined (op : Exact → Exact → Exact) (ps : List Reading) (n : ℕ) : Type 0 where
  pub consistent : Consistent (together op ps)
  pub encloses : Encloses (together op ps) fine (two_pi_times n)

module _ {op : Exact → Exact → Exact} {f : ℕ → ℕ → ℕ} (j : Joins op f) (g : List Reading → ℕ)
    (one : (p : Reading) → product p ≤ most_product → g (p ∷ []) ≡ product p)
    (more : (p q : Reading) (ps : List Reading) → g (p ∷ q ∷ ps) ≡ f (product p) (g (q ∷ ps))) where
  joined : (p : Reading) (ps : List Reading) → Bounded (p ∷ ps) → Joined op (p ∷ ps) (g (p ∷ ps))
  unfolding together Bounded
  joined p [] b = record { consistent = consistent_apparent p; encloses = rw (one p b.0) (apparent_encloses p) }
  joined p (q ∷ ps) b =
      let r = joined q ps b.1 in
      let cp = consistent_apparent p in
      record {
        consistent = j.consistent cp r.consistent;
        encloses = rw (more p q ps) (j.encloses (product p) (g (q ∷ ps)) cp r.consistent (apparent_encloses p) r.encloses);
      }

module _ (p : Reading) (ps : List Reading) (b : Bounded (p ∷ ps)) where
  pub least_joined : Joined lesser (p ∷ ps) (products_of (p ∷ ps)).least
  unfolding products_of with_product
  least_joined = joined lesser_joins (λ l. (products_of l).least) (λ q h. omega arith) (λ q r l. refl) p ps b

  pub greatest_joined : Joined greater (p ∷ ps) (products_of (p ∷ ps)).greatest
  unfolding products_of with_product
  greatest_joined = joined greater_joins (λ l. (products_of l).greatest) (λ q h. omega arith) (λ q r l. refl) p ps b

  pub sum_joined : Joined ◌+x◌ (p ∷ ps) (products_of (p ∷ ps)).total
  unfolding products_of with_product
  sum_joined = joined sum_joins (λ l. (products_of l).total) (λ q h. omega arith) (λ q r l. refl) p ps b
