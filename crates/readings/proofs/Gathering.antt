-- The pairs taken from the last to the first: what holds when pair k and all after it are taken.
use Prim.Native.Nat.{ℕ, suc, ◌+◌, ◌-◌, ◌*◌, ◌/◌, ◌≤◌, ◌<◌}
use mathlib.Core.{Path.{◌≡◌}, List.{List, ◌∷◌}}
use native.Mathlib.Omega.{arith}
use lib.ListN.{length, get_or, drop, drop_of_length-le, length-drop}
use Rattle.readings.specs.{declared.products.Products.{Products}, Reading.{pairs_of}}
use Rattle.readings.specs.{Taken.{most_product, most_pairs, product, Bounded, Taken}, Ends.{with_product, highest, products_of}}
use Rattle.readings.proofs.{Pairs.{pair_count, pair_at, pairs_at}, Bounds.{bounded_drop, total_bound}}

pub record Gathered (s : List ℕ) (k : ℕ) (t : Products) : Type 0 where
  pub within : k ≤ length s / 2
  pub so_far : t ≡ products_of (drop k (pairs_of s))

pub gathered_start : (s : List ℕ) → Gathered s (length s / 2) (record { least = highest; greatest = 0; total = 0 })
unfolding products_of
gathered_start s =
    let l : length (pairs_of s) ≤ length s / 2 = omega (arith, pair_count s) in
    record { within = omega arith; so_far = rw (drop_of_length-le (pairs_of s) l) }

module _ {s : List ℕ} {k : ℕ} {t : Products} (h : 0 < k) (a : Gathered s k t) where
  inside : k - 1 < length s / 2
  inside = omega (arith, a.within)

  -- pair k − 1 stands before them
  before : drop (k - 1) (pairs_of s) ≡ pair_at s (k - 1) ∷ drop k (pairs_of s)
  before = let e : suc (k - 1) ≡ k = omega arith in rw e at (pairs_at s (k - 1) inside)

  pub gathered_step : Gathered s (k - 1) (with_product (get_or s (2 * (k - 1)) 0 * get_or s (2 * (k - 1) + 1) 0) t)
  unfolding products_of product
  gathered_step = record { within = omega (arith, a.within); so_far = rw (before, a.so_far) }

  module _ (b : Taken s) where
    next_bounded : Bounded (pair_at s (k - 1) ∷ drop k (pairs_of s))
    next_bounded = rw before at (bounded_drop (k - 1) (pairs_of s) b.bounded)

    -- a·R of the next pair
    pub next_bound : get_or s (2 * (k - 1)) 0 * get_or s (2 * (k - 1) + 1) 0 ≤ most_product
    unfolding Bounded product
    next_bound = next_bounded.0

    -- what is left of the list is no longer than the list
    pub total_small : t.total ≤ most_pairs * most_product
    total_small =
        let d = total_bound (drop k (pairs_of s)) (bounded_drop k (pairs_of s) b.bounded) in
        let l = length-drop k (pairs_of s) in
        rw a.so_far (omega (arith, d, l, b.few))

pub gathered_end : {s : List ℕ} {k : ℕ} {t : Products} → Gathered s k t → k ≤ 0 → t ≡ products_of (pairs_of s)
gathered_end {s} {k} a h = let e : k ≡ 0 = omega arith in rw e at a.so_far
