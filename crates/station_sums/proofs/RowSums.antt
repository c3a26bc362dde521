-- The pass that adds each row at the place of its station.
use Prim.Native.Nat.{ℕ, zero, suc, ◌+◌, ◌≤◌, ◌<◌}
use mathlib.Core.{Path.{◌≡◌, refl, sym, ap, ◌∙◌}, Bool.{Bool, true, false, cond}, List.{List}}
use native.Mathlib.{Numerals.{add-one}, Omega.{arith}}
use lib.{Dec.{eqb}, IntN.{ℤ, pos}, ListN.{length, get_or, set, length-set}, Seq.{get_or-set_same, get_or-set_other}}
use borrow.Author.Tests.{eqb-true, eqb-false}
use Rattle.whole.proofs.Count.{one_most}
use Rattle.judgement.specs.Limits.{most_lines}
use Rattle.station_sums.specs.{declared.{Entry.{Entry}, Sums.{Sums}}, Summary.{same_z}, Sums.{add_to, none, entry_at, sums_at, Small}}

-- ---- the counts are small

-- counts of at most n rows
record Counts (s : Sums) (n : ℕ) : Type 0 where
  seasons : s.seasons ≤ n
  safe : s.safe ≤ s.seasons
  not_safe_lem : s.not_safe ≤ s.seasons
  undecided : s.undecided ≤ s.seasons

counts_add : {s : Sums} {n : ℕ} (e : Entry) → Counts s n → Counts (add_to s e) (suc n)
unfolding add_to
counts_add {s} {n} e a =
    record {
      seasons = omega (arith, a.seasons);
      safe = omega (arith, a.safe, one_most (same_z e.verdict (pos 1)));
      not_safe_lem = omega (arith, a.not_safe_lem, one_most (same_z e.verdict (pos 2)));
      undecided = omega (arith, a.undecided, one_most (same_z e.verdict (pos 3)));
    }

counts_at : (table : List ℤ) (places : List ℕ) (j n : ℕ) → Counts (sums_at table places j n) n
unfolding sums_at none
counts_at table places j zero = record { seasons = omega arith; safe = omega arith; not_safe_lem = omega arith; undecided = omega arith }
counts_at table places j (suc n) = go (eqb (get_or places n 0) j) (counts_at table places j n)
  where
    go : {s : Sums} (b : Bool) → Counts s n → Counts (cond b (add_to s (entry_at table n)) s) (suc n)
    go true a = counts_add (entry_at table n) a
    go false a = record { seasons = omega (arith, a.seasons); safe = a.safe; not_safe_lem = a.not_safe_lem; undecided = a.undecided }

pub small_at : (table : List ℤ) (places : List ℕ) (j n : ℕ) → n ≤ most_lines → Small (sums_at table places j n)
small_at table places j n h =
    let a = counts_at table places j n in
    record { seasons = omega (arith, a.seasons); safe = a.safe; not_safe_lem = a.not_safe_lem; undecided = a.undecided }

-- ---- the pass

pub record Summing (table : List ℤ) (places : List ℕ) (n i : ℕ) (sums : List Sums) : Type 0 where
  pub most : i ≤ n
  pub size : length sums ≡ most_lines
  pub at : (j : ℕ) → j < most_lines → get_or sums j none ≡ sums_at table places j i

pub summing_start : (table : List ℤ) (places : List ℕ) (n : ℕ) {sums : List Sums} → length sums ≡ most_lines
    → ((j : ℕ) → j < most_lines → get_or sums j none ≡ none) → Summing table places n 0 sums
unfolding sums_at
summing_start table places n size empty = record { most = omega arith; size = size; at = empty }

module _ {table : List ℤ} {places : List ℕ} {n i : ℕ} {sums : List Sums} (a : Summing table places n i sums) where
  pub summing_next : {s : Sums} → i < n → get_or places i 0 < most_lines
      → s ≡ add_to (get_or sums (get_or places i 0) none) (entry_at table i) → Summing table places n (i + 1) (set sums (get_or places i 0) s)
  unfolding sums_at
  summing_next {s} h p e =
      record {
        most = omega arith;
        size = length-set sums (get_or places i 0) s ∙ a.size;
        at = λ j l. rw add-one (go j l (eqb (get_or places i 0) j) refl);
      }
    where
      go : (j : ℕ) → j < most_lines → (b : Bool) → eqb (get_or places i 0) j ≡ b
          → get_or (set sums (get_or places i 0) s) j none
          ≡ cond b (add_to (sums_at table places j i) (entry_at table i)) (sums_at table places j i)
      go j l true q =
          let same : get_or places i 0 ≡ j = eqb-true (get_or places i 0) j q in
          rw (← same) (get_or-set_same sums (get_or places i 0) s none (omega (arith, a.size)) ∙ e
          ∙ ap (λ (x : Sums). add_to x (entry_at table i)) (a.at (get_or places i 0) p))
      go j l false q =
          let other : get_or places i 0 ≡ j → ⊥ = eqb-false (get_or places i 0) j q in
          get_or-set_other sums (get_or places i 0) j s none (λ x. other (sym x)) ∙ a.at j l
