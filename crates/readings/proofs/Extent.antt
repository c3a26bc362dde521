-- The least and the greatest of a list are what their names say: the least is at or below the apparent resistivity of every pair, which is
-- at or below the greatest; and some pair is at or below the least, some pair at or above the greatest.
use Prim.Native.Nat.{ℕ, ◌≤◌}
use mathlib.Core.{Path.{refl}, Logic.{◌⊎◌, inl, inr, ⊎_elim}}
use mathlib.Core.List.Memᴰ
use mathlib.Core.List.{List, [], ◌∷◌, Memᴰ}
use native.Mathlib.{Decide.{dec_le}, Omega.{arith}}
use Rattle.exact.specs.{Fraction.{Fraction, ◌≤f◌, whole, decimal, ◌·f◌}, Exact.{Exact, exactly, ◌·x◌, AtOrBelow}}
use Rattle.exact.specs.{Depth.{Consistent, PositiveAt, SameEnds}, Pi.{π}}
use Rattle.exact.proofs.Order.{refl≤, trans≤, le_of_lt, not<, whole_pos, min_left, min_right, min_cases, max_left, max_right, max_cases}
use Rattle.exact.proofs.{Products.{mul≤, mul_left≤}, Fractions.{exactly_product}}
use Rattle.exact.proofs.{KnownEnds.{same_refl, same_trans, scaled_ends, scaled_ends_lem}, Alike.{product_same}}
use Rattle.exact.proofs.{Factors.{product_turned, product_grouped}, Consistency.{proper_at, consistent_exactly, consistent_product}}
use Rattle.exact.proofs.{Pi.{consistent_π}, Positive.{positive_upper}, Quantity.{quantity_exactly, quantity_product, quantity_π}}
use Rattle.readings.specs.{Reading.{Reading}, Taken.{product}, Resistivity.{apparent, lesser, greater, together, least, greatest}}
use Rattle.readings.proofs.Enclosed.{consistent_apparent}

-- what an operation's outcome has to its arguments, the pairs taken together have to each of them
module _ (op : Exact → Exact → Exact) (R : Exact → Exact → Type 0) (same : (x : Exact) → R x x) (first : (x y : Exact) → R (op x y) x)
    (later : (x y z : Exact) → R y z → R (op x y) z) where
  every : (p : Reading) (ps : List Reading) → Memᴰ p ps → R (together op ps) (apparent p)
  unfolding together
  every p [] m = absurd (Memᴰ.not-nil m)
  every p (q ∷ []) m = ⊎_elim (λ e. rw e (same _)) (λ n. absurd (Memᴰ.not-nil n)) (Memᴰ.cases_cons m)
  every p (q ∷ r ∷ ps) m = ⊎_elim (λ e. rw e (first _ _)) (λ n. later _ _ _ (every p (r ∷ ps) n)) (Memᴰ.cases_cons m)

module _ (p : Reading) (ps : List Reading) (m : Memᴰ p ps) where
  -- at each depth
  lower_least : (k : ℕ) → (least ps k).lower ≤f (apparent p k).lower
  unfolding least lesser
  lower_least k =
      every lesser (λ x y. (x k).lower ≤f (y k).lower) (λ x. refl≤ _) (λ x y. min_left _ _) (λ x y z h. trans≤ (min_right _ _) h) p ps m

  upper_greatest : (k : ℕ) → (apparent p k).upper ≤f (greatest ps k).upper
  unfolding greatest greater
  upper_greatest k =
      every greater (λ x y. (y k).upper ≤f (x k).upper) (λ x. refl≤ _) (λ x y. max_left _ _) (λ x y z h. trans≤ h (max_right _ _)) p ps m

  pub least_below : AtOrBelow (least ps) (apparent p)
  least_below a = not< a.above (trans≤ (lower_least a.depth) (proper_at (consistent_apparent p) a.deep).proper)

  pub greatest_above : AtOrBelow (apparent p) (greatest ps)
  greatest_above a = not< a.above (trans≤ (proper_at (consistent_apparent p) a.deep).proper (upper_greatest a.depth))

-- ---- a pair with a lesser a·R is not above one with a greater

twoπ : Exact
twoπ = exactly (whole 2) ·x π

consistent_twoπ : Consistent twoπ
unfolding twoπ
consistent_twoπ = consistent_product (consistent_exactly (whole 2)) consistent_π

positive_twoπ : PositiveAt twoπ
unfolding twoπ
positive_twoπ = (quantity_product (quantity_exactly (whole_pos {n = 2} (omega arith))) quantity_π).positive

-- a·R in metres and ohms
ohm_metres : Reading → Fraction
ohm_metres p = decimal p.distance 3 ·f decimal p.resistance 3

ohm_metres_nonneg : (p : Reading) → whole 0 ≤f ohm_metres p
unfolding ohm_metres whole decimal ◌·f◌
ohm_metres_nonneg p = record { le = omega arith }

ohm_metres_rise : (p q : Reading) → product p ≤ product q → ohm_metres p ≤f ohm_metres q
unfolding ohm_metres product decimal ◌·f◌
ohm_metres_rise p q h = record { le = omega arith }

module _ {k : ℕ} (deep : 3 ≤ k) where
  -- the ends of 2π·a·R are those of 2π, a·R times
  ends_are : (p : Reading) → SameEnds (apparent p k) (scaled_ends (ohm_metres p) (twoπ k))
  unfolding apparent twoπ ohm_metres ◌·x◌
  ends_are p =
      let a = exactly (decimal p.distance 3) in
      let R = exactly (decimal p.resistance 3) in
      same_trans (product_grouped (proper_at consistent_twoπ deep) (proper_at (consistent_exactly _) deep)
      (proper_at (consistent_exactly _) deep))
      (same_trans (product_same (same_refl _) (exactly_product (decimal p.distance 3) (decimal p.resistance 3) k))
      (same_trans (product_turned _ _) (scaled_ends_lem k (ohm_metres_nonneg p) (proper_at consistent_twoπ deep))))

  not_above : (p q : Reading) → product p ≤ product q → (apparent p k).lower ≤f (apparent q k).upper
  not_above p q h =
      let proper = proper_at consistent_twoπ deep in
      trans≤ (ends_are p).lowers.to
      (trans≤ (mul_left≤ (ohm_metres_nonneg p) proper.proper)
      (trans≤ (mul≤ (le_of_lt (positive_upper proper (positive_twoπ.at k deep))) (ohm_metres_rise p q h)) (ends_are q).uppers.fro))

-- ---- the pair with the least a·R of a list, or with the greatest

record Foremost (R : ℕ → ℕ → Type 0) (ps : List Reading) : Type 0 where
  pair : Reading
  among : Memᴰ pair ps
  foremost : (q : Reading) → Memᴰ q ps → R (product pair) (product q)

module _ (R : ℕ → ℕ → Type 0) (itself : (m : ℕ) → R m m) (compare : (m n : ℕ) → R m n ⊎ R n m)
    (through : (l m n : ℕ) → R l m → R m n → R l n) where
  foremost_of : (p : Reading) (ps : List Reading) → Foremost R (p ∷ ps)
  foremost_of p [] =
      record {
        pair = p;
        among = Memᴰ.head refl;
        foremost = λ q m. ⊎_elim (λ e. rw e (itself _)) (λ n. absurd (Memᴰ.not-nil n))
            (Memᴰ.cases_cons m);
      }
  foremost_of p (r ∷ ps) = go (foremost_of r ps)
    where
      go : Foremost R (r ∷ ps) → Foremost R (p ∷ r ∷ ps)
      go f = ⊎_elim first later (compare (product p) (product f.pair))
        where
          first : R (product p) (product f.pair) → Foremost R (p ∷ r ∷ ps)
          first h =
              record {
                pair = p;
                among = Memᴰ.head refl;
                foremost = λ q m. ⊎_elim (λ e. rw e (itself _)) (λ n. through _ _ _ h (f.foremost q n)) (Memᴰ.cases_cons m);
              }

          later : R (product f.pair) (product p) → Foremost R (p ∷ r ∷ ps)
          later h =
              record {
                pair = f.pair;
                among = Memᴰ.tail f.among;
                foremost = λ q m. ⊎_elim (λ e. rw e h) (λ n. f.foremost q n) (Memᴰ.cases_cons m);
              }

either : (m n : ℕ) → (m ≤ n) ⊎ (n ≤ m)
either m n = go (dec_le m n)
  where
    go : Dec (m ≤ n) → (m ≤ n) ⊎ (n ≤ m)
    go (yes h) = inl h
    go (no h) = inr (omega (arith, h))

-- what holds of every pair holds of the pairs taken together, where the operation keeps it
pub kept : (op : Exact → Exact → Exact) (P : Exact → Type 0) → ((x y : Exact) → P x → P y → P (op x y)) → (p : Reading) (ps : List Reading)
    → ((q : Reading) → Memᴰ q (p ∷ ps) → P (apparent q)) → P (together op (p ∷ ps))
unfolding together
kept op P joins p [] h = h p (Memᴰ.head refl)
kept op P joins p (r ∷ ps) h = joins _ _ (h p (Memᴰ.head refl)) (kept op P joins r ps (λ q m. h q (Memᴰ.tail m)))

module _ (b : Fraction) (k : ℕ) (x y : Exact) where
  under_lesser : b ≤f (x k).upper → b ≤f (y k).upper → b ≤f (lesser x y k).upper
  unfolding lesser
  under_lesser g h = min_cases (λ u. b ≤f u) (λ t. g) (λ t. h)

  over_greater : (x k).lower ≤f b → (y k).lower ≤f b → (greater x y k).lower ≤f b
  unfolding greater
  over_greater g h = max_cases (λ u. u ≤f b) (λ t. g) (λ t. h)

module _ (p : Reading) (ps : List Reading) where
  -- "the least .. over all pairs" is that of some pair
  pub least_some : (q : Reading) × Memᴰ q (p ∷ ps) × AtOrBelow (apparent q) (least (p ∷ ps))
  unfolding least
  least_some =
      let f = foremost_of ◌≤◌ (λ m. omega arith) either (λ l m n g h. omega arith) p ps in (
        f.pair,
        f.among,
        λ a.
            not< a.above
            (kept lesser (λ x. (apparent f.pair a.depth).lower ≤f (x a.depth).upper) (under_lesser _ a.depth) p ps
            (λ q m. not_above a.deep f.pair q (f.foremost q m))),
      )

  -- "the greatest" likewise
  pub greatest_some : (q : Reading) × Memᴰ q (p ∷ ps) × AtOrBelow (greatest (p ∷ ps)) (apparent q)
  unfolding greatest
  greatest_some =
      let f = foremost_of (λ m n. n ≤ m) (λ m. omega arith) (λ m n. either n m) (λ l m n g h. omega arith) p ps in (
        f.pair,
        f.among,
        λ a.
            not< a.above
            (kept greater (λ x. (x a.depth).lower ≤f (apparent f.pair a.depth).upper) (over_greater _ a.depth) p ps
            (λ q m. not_above a.deep q f.pair (f.foremost q m))),
      )
