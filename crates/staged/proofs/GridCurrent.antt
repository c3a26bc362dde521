-- The grid's part of a current by a loop over the branches; branches and grid together make the injected current.
use Prim.Native.Nat.{ℕ, zero, suc, ◌+◌, ◌*◌, ◌≤◌, ◌<◌}
use mathlib.Core.{Path.{◌≡◌, refl, ap, sym, ◌∙◌}, List.{List, [], ◌∷◌}}
use native.Mathlib.{Omega.{arith}, Nat.{add-zero}}
use lib.IntN.{ℤ, pos, neg_ℤ, nat_abs, ◌+ℤ◌, ◌-ℤ◌, +ℤ_idr, +ℤ_assoc, +ℤ_comm, neg_ℤ-+ℤ, -ℤ-+ℤ_cancel}
use lib.{ListN.{length, get_or, drop, drop_of_length-le}, Seq.{get_or-drop, drop-drop}}
use Rattle.std.specs.Simd.{first_chunks}
use Rattle.std.proofs.lemmas.List.{get_or-take}
use Rattle.whole.proofs.Signed.{size_difference}
use Rattle.staged.specs.{Check.{most_numbers, largest_part}, Current.{every_other, injected, branches, total, grid_part}}
use Rattle.staged.specs.Parts.{largest_grid_part, Parts}

-- "Branches and grid together make the injected current exactly", for the parts of either kind
pub together : (p : List ℤ) → total (branches p) +ℤ grid_part p ≡ injected p
unfolding grid_part
together p = +ℤ_comm (total (branches p)) (injected p -ℤ total (branches p)) ∙ -ℤ-+ℤ_cancel (injected p) (total (branches p))

-- ---- every other number

pub first_kept : (s : List ℤ) → injected (every_other s) ≡ get_or s 0 (pos 0)
unfolding every_other injected
first_kept [] = refl
first_kept (z ∷ []) = refl
first_kept (z ∷ w ∷ s) = refl

branches_are : (s : List ℤ) → branches (every_other s) ≡ every_other (drop 2 s)
unfolding every_other branches
branches_are [] = refl
branches_are (z ∷ []) = refl
branches_are (z ∷ w ∷ s) = refl

total_step : (s : List ℤ) → total (every_other s) ≡ get_or s 0 (pos 0) +ℤ total (every_other (drop 2 s))
unfolding every_other total
total_step [] = refl
total_step (z ∷ []) = refl
total_step (z ∷ w ∷ s) = refl

-- ---- the loop: of the currents added so far, z is what is left

pub record Left (s : List ℤ) (z : ℤ) (i : ℕ) : Type 0 where
  pub worked : ℕ
  pub place : i ≡ 2 * worked
  pub few : worked ≤ 17
  pub size : nat_abs z ≤ largest_part * worked
  pub is : z -ℤ total (every_other (drop i s)) ≡ grid_part (every_other s)

module _ {s : List ℤ} (p : Parts s) where
  pub left_start : Left s (get_or s 0 (pos 0)) 2
  unfolding grid_part largest_part
  left_start =
      record { worked = 1; place = refl; few = omega arith; size = omega (arith, p.size 0); is = rw (first_kept, branches_are) }

  -- one branch less
  less : (z x t : ℤ) → (z -ℤ x) -ℤ t ≡ z -ℤ (x +ℤ t)
  less z x t = +ℤ_assoc z (neg_ℤ x) (neg_ℤ t) ∙ ap (λ n. z +ℤ n) (sym (neg_ℤ-+ℤ x t))

  total_drop : (i : ℕ) → total (every_other (drop i s)) ≡ get_or s i (pos 0) +ℤ total (every_other (drop (i + 2) s))
  total_drop i = total_step (drop i s) ∙ rw (get_or-drop, drop-drop, add-zero)

  pub left_step : {z : ℤ} {i : ℕ} → Left s z i → i < length s → Left s (z -ℤ get_or s i (pos 0)) (i + 2)
  unfolding most_numbers largest_part
  left_step {z} {i} l h =
      record {
        worked = l.worked + 1;
        place = omega (arith, l.place);
        few = omega (arith, l.place, p.most);
        size = omega (arith, l.size, p.size i, size_difference z (get_or s i (pos 0)));
        is = less z (get_or s i (pos 0)) _ ∙ (rw (total_drop i) at l.is);
      }

  pub left_end : {z : ℤ} {i : ℕ} → Left s z i → length s ≤ i → z ≡ grid_part (every_other s)
  unfolding every_other total
  left_end {z} {i} l h = sym (+ℤ_idr z) ∙ (rw (drop_of_length-le s h) at l.is)

pub left_small : {s : List ℤ} {z : ℤ} {i : ℕ} → Left s z i → nat_abs z ≤ largest_grid_part
unfolding largest_part
left_small l = omega (arith, l.size, l.few)

-- ---- the numbers two by two

-- the second number of a pair
pub second_of : (n : ℕ) (s : List ℤ) (k : ℕ) → k < n → get_or (get_or (first_chunks 2 n s) k []) 1 (pos 0) ≡ get_or s (2 * k + 1) (pos 0)
second_of zero s k h = absurd (omega arith)
second_of (suc n) s zero h = get_or-take 2 s 1 (pos 0) (omega arith)
second_of (suc n) s (suc k) h =
    let e : 2 + (2 * k + 1) ≡ 2 * suc k + 1 = omega arith in
    second_of n (drop 2 s) k (omega arith) ∙ get_or-drop 2 s (2 * k + 1) (pos 0) ∙ ap (λ i. get_or s i (pos 0)) e
