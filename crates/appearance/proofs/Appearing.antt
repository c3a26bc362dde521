-- The pass that finds the stations by first appearance: the lines before i are placed.
use Prim.Native.Nat.{ℕ, zero, suc, ◌+◌, ◌-◌, ◌≤◌, ◌<◌}
use mathlib.Core.{Path.{◌≡◌, refl, sym, ap, ◌∙◌}, Logic.{◌⊎◌, inl, inr}, Bool.{Bool, true, false, ◌||◌}, List.{List, [], ◌∷◌, ◌++◌}}
use native.Mathlib.{Nat.{eq-or-lt_of_le}, Numerals.{add-one}, Omega.{arith}}
use lib.{IntN.{ℤ, pos}, ListN.{length, get_or, set, take, length-set}}
use lib.Seq.{get_or-set_same, get_or-set_other, get_or-take, take-suc-set, length-take-le}
use Rattle.judgement.specs.Limits.{most_lines}
use Rattle.station_sums.{specs.Summary.{same_z, among, by_appearance}, proofs.Same.{same_refl, not_same}}
use Rattle.appearance.specs.Places.{station_at, station_column, Places}
use Rattle.appearance.proofs.Standing.{NotAmong, StandsAt}

-- ---- a station among some

among_at : (x : ℤ) (k : ℕ) (l : List ℤ) → k < length l → get_or l k (pos 0) ≡ x → among x l ≡ true
unfolding among
among_at x k [] h e = absurd (omega arith)
among_at x zero (y ∷ l) h e = rw (e, same_refl x)
among_at x (suc k) (y ∷ l) h e = go (same_z x y) (among_at x k l (omega arith) e)
  where
    go : (b : Bool) {c : Bool} → c ≡ true → b || c ≡ true
    go true f = refl
    go false f = f

among_none : (x : ℤ) (l : List ℤ) → ((k : ℕ) → k < length l → get_or l k (pos 0) ≡ x → ⊥) → among x l ≡ false
unfolding among
among_none x [] h = refl
among_none x (y ∷ l) h = rw (not_same x y (λ e. h zero (omega arith) (sym e))) (among_none x l (λ k g. h (suc k) (omega arith)))

module _ {known : List ℤ} {count : ℕ} {x : ℤ} (fits : count ≤ length known) where
  placed_among : {p : ℕ} → StandsAt known count x p → among x (take count known) ≡ true
  placed_among {p} q =
      let h = q.within in
      among_at x p (take count known) (omega (arith, length-take-le count known fits)) (get_or-take count known p (pos 0) h ∙ q.here)

  placed_new : NotAmong known count x → among x (take count known) ≡ false
  placed_new q =
      among_none x (take count known)
      (λ k g e.
      let l : k < count = omega (arith, length-take-le count known fits) in
      q.none k l (sym (get_or-take count known k (pos 0) l) ∙ e))

from_known : (found : List ℤ) (x : ℤ) (xs : List ℤ) → among x found ≡ true → by_appearance found (x ∷ xs) ≡ by_appearance found xs
unfolding by_appearance
from_known found x xs e = rw e

from_new : (found : List ℤ) (x : ℤ) (xs : List ℤ) → among x found ≡ false
    → by_appearance found (x ∷ xs) ≡ by_appearance (found ++ (x ∷ [])) xs
unfolding by_appearance
from_new found x xs e = rw e

-- ---- the pass

pub record Placing (table : List ℤ) (n i : ℕ) (known : List ℤ) (places : List ℕ) (count : ℕ) : Type 0 where
  pub most : i ≤ n
  pub fewer : count ≤ i
  pub known_size : length known ≡ most_lines
  pub places_size : length places ≡ most_lines
  pub found : by_appearance (take count known) (station_column table i (n - i)) ≡ by_appearance [] (station_column table 0 n)
  pub within : (k : ℕ) → k < i → get_or places k 0 < count
  pub own : (k : ℕ) → k < i → get_or known (get_or places k 0) (pos 0) ≡ station_at table k
  pub apart : (j k : ℕ) → j < count → k < count → get_or known j (pos 0) ≡ get_or known k (pos 0) → j ≡ k

module _ {table : List ℤ} {n i : ℕ} {known : List ℤ} {places : List ℕ} {count : ℕ} (a : Placing table n i known places count) (h : i < n)
    (small : n ≤ most_lines) where
  next_row : station_column table i (n - i) ≡ station_at table i ∷ station_column table (suc i) (n - suc i)
  unfolding station_column
  next_row =
      let z : n - i ≡ suc (n - suc i) = omega arith in
      rw z

  -- the line's station is among those found
  pub placing_known : {p : ℕ} → StandsAt known count (station_at table i) p → Placing table n (i + 1) known (set places i p) count
  placing_known {p} q =
      record {
        most = omega arith;
        fewer = omega (arith, a.fewer);
        known_size = a.known_size;
        places_size = length-set places i p ∙ a.places_size;
        found = rw add-one (sym skipped ∙ a.found);
        within = λ k g. at_within k (eq-or-lt_of_le (omega arith));
        own = λ k g. at_own k (eq-or-lt_of_le (omega arith));
        apart = a.apart;
      }
    where
      skipped : by_appearance (take count known) (station_column table i (n - i))
          ≡ by_appearance (take count known) (station_column table (suc i) (n - suc i))
      skipped =
          ap (by_appearance (take count known)) next_row
          ∙ from_known (take count known) _ _ (placed_among (omega (arith, a.fewer, a.known_size)) q)

      here : get_or (set places i p) i 0 ≡ p
      here = get_or-set_same places i p 0 (omega (arith, a.places_size))

      there : (k : ℕ) → k < i → get_or (set places i p) k 0 ≡ get_or places k 0
      there k g = get_or-set_other places i k p 0 (λ e. omega arith)

      at_within : (k : ℕ) → (k ≡ i) ⊎ (k < i) → get_or (set places i p) k 0 < count
      at_within k (inl e) = rw (e, here) q.within
      at_within k (inr g) = rw (there k g) (a.within k g)

      at_own : (k : ℕ) → (k ≡ i) ⊎ (k < i) → get_or known (get_or (set places i p) k 0) (pos 0) ≡ station_at table k
      at_own k (inl e) = rw (e, here) q.here
      at_own k (inr g) = rw (there k g) (a.own k g)

  -- it is a new one
  pub placing_new : NotAmong known count (station_at table i)
      → Placing table n (i + 1) (set known count (station_at table i)) (set places i count) (count + 1)
  placing_new q =
      record {
        most = omega arith;
        fewer = omega (arith, a.fewer);
        known_size = length-set known count (station_at table i) ∙ a.known_size;
        places_size = length-set places i count ∙ a.places_size;
        found = rw (add-one, add-one) (sym longer ∙ a.found);
        within = λ k g. at_within k (eq-or-lt_of_le (omega arith));
        own = λ k g. at_own k (eq-or-lt_of_le (omega arith));
        apart = λ j k g f. at_apart j k (eq-or-lt_of_le (omega arith)) (eq-or-lt_of_le (omega arith));
      }
    where
      inside : count < length known
      inside = omega (arith, a.fewer, a.known_size)

      longer : by_appearance (take count known) (station_column table i (n - i))
          ≡ by_appearance (take (suc count) (set known count (station_at table i))) (station_column table (suc i) (n - suc i))
      longer =
          ap (by_appearance (take count known)) next_row ∙ from_new (take count known) _ _ (placed_new (omega arith) q)
          ∙ ap (λ (f : List ℤ). by_appearance f (station_column table (suc i) (n - suc i)))
          (sym (take-suc-set known count (station_at table i) inside))

      here : get_or (set places i count) i 0 ≡ count
      here = get_or-set_same places i count 0 (omega (arith, a.places_size))

      there : (k : ℕ) → k < i → get_or (set places i count) k 0 ≡ get_or places k 0
      there k g = get_or-set_other places i k count 0 (λ e. omega arith)

      new : get_or (set known count (station_at table i)) count (pos 0) ≡ station_at table i
      new = get_or-set_same known count (station_at table i) (pos 0) inside

      old : (k : ℕ) → k < count → get_or (set known count (station_at table i)) k (pos 0) ≡ get_or known k (pos 0)
      old k g = get_or-set_other known count k (station_at table i) (pos 0) (λ e. omega arith)

      at_within : (k : ℕ) → (k ≡ i) ⊎ (k < i) → get_or (set places i count) k 0 < count + 1
      at_within k (inl e) = rw (e, here) (omega arith)
      at_within k (inr g) = rw (there k g) (omega (arith, a.within k g))

      at_own : (k : ℕ) → (k ≡ i) ⊎ (k < i)
          → get_or (set known count (station_at table i)) (get_or (set places i count) k 0) (pos 0) ≡ station_at table k
      at_own k (inl e) = rw (e, here) new
      at_own k (inr g) = rw (there k g, old (get_or places k 0) (a.within k g)) (a.own k g)

      at_apart : (j k : ℕ) → (j ≡ count) ⊎ (j < count) → (k ≡ count) ⊎ (k < count)
          → get_or (set known count (station_at table i)) j (pos 0) ≡ get_or (set known count (station_at table i)) k (pos 0) → j ≡ k
      at_apart j k (inl e) (inl f) s = e ∙ sym f
      at_apart j k (inl e) (inr f) s = absurd (q.none k f (sym (old k f) ∙ sym s ∙ rw e new))
      at_apart j k (inr e) (inl f) s = absurd (q.none j e (sym (old j e) ∙ s ∙ rw f new))
      at_apart j k (inr e) (inr f) s = a.apart j k e f (sym (old j e) ∙ s ∙ old k f)

pub placing_end : {table : List ℤ} {n i : ℕ} {known : List ℤ} {places : List ℕ} {count : ℕ} → Placing table n i known places count → n ≤ i
    → Places table n known places count
unfolding by_appearance station_column
placing_end {table} {n} {i} a h =
    let z : n - i ≡ 0 = omega arith in
    let none_left : station_column table i (n - i) ≡ [] = rw z in
    record {
      most = omega (arith, a.most, a.fewer);
      known_are = sym (ap (by_appearance _) none_left) ∙ a.found;
      known_size = a.known_size;
      places_size = a.places_size;
      within = λ k g. a.within k (omega arith);
      own = λ k g. a.own k (omega arith);
      apart = a.apart;
    }
