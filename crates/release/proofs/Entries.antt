-- The entries of a licence: how many, which numbers each has, and the search for the first that is wrong.
use Prim.Native.Nat.{ℕ, zero, suc, ◌+◌, ◌*◌, ◌/◌, ◌≤◌, ◌<◌}
use mathlib.Core.{Path.{◌≡◌, refl, sym, ◌∙◌}, Bool.{Bool, true, false, cond, ◌||◌}, List.{List, [], ◌∷◌}}
use native.Mathlib.{Numerals.{add-one}, Omega.{arith}}
use lib.{Dec.{eqb}, ListN.{length, get_or, drop, drop_of_length-le}}
use Rattle.std.specs.Prelude.{Option, Some, None}
use Rattle.std.proofs.Math.Bool.{or_comm}
use Rattle.release.specs.Licence.{entries_of, among, wrong_station, wrong_seasons, wrong_area, first_wrong}
use Rattle.release.specs.Earlier.{entry_at, earlier, wrong_at}

pub entry_count : (s : List ℕ) → length (entries_of s) ≡ length s / 3
unfolding entries_of
entry_count [] = refl
entry_count (a ∷ []) = refl
entry_count (a ∷ b ∷ []) = refl
entry_count (a ∷ b ∷ d ∷ s) = omega (arith, entry_count s)

pub entries_at : (s : List ℕ) (k : ℕ) → k < length s / 3 → drop k (entries_of s) ≡ entry_at s k ∷ drop (suc k) (entries_of s)
unfolding entries_of
entries_at [] k h = absurd (omega arith)
entries_at (a ∷ []) k h = absurd (omega arith)
entries_at (a ∷ b ∷ []) k h = absurd (omega arith)
entries_at (a ∷ b ∷ d ∷ s) zero h = refl
entries_at (a ∷ b ∷ d ∷ s) (suc k) h =
    let e : 3 * suc k ≡ suc (suc (suc (3 * k))) = omega arith in
    let f : 3 * suc k + 1 ≡ suc (suc (suc (3 * k + 1))) = omega arith in
    let g : 3 * suc k + 2 ≡ suc (suc (suc (3 * k + 2))) = omega arith in
    rw (g, f, e) (entries_at s k (omega arith))

-- ---- a station among the first entries

pub among_none : (s : List ℕ) (station : ℕ) → false ≡ among station (earlier s 0)
unfolding among earlier
among_none s station = refl

pub among_step : (s : List ℕ) (station i : ℕ) {found : Bool} → found ≡ among station (earlier s i)
    → (found || eqb (get_or s (3 * i) 0) station) ≡ among station (earlier s (i + 1))
unfolding among earlier
among_step s station i {found} e = or_comm found (eqb (get_or s (3 * i) 0) station) ∙ rw (add-one, e)

-- ---- the first entry that is wrong, while the first k are not

pub record Searching (s : List ℕ) (k : ℕ) : Type 0 where
  pub passed : first_wrong [] 1 (entries_of s) ≡ first_wrong (earlier s k) (k + 1) (drop k (entries_of s))

pub searching_start : (s : List ℕ) → Searching s 0
unfolding earlier
searching_start s = record { passed = refl }

module _ {s : List ℕ} {k : ℕ} (a : Searching s k) where
  -- the next entry by its column at fault
  abbrev column : Bool → Bool → Bool → Option ℕ
  column w v u = cond w (Some 1) (cond v (Some 2) (cond u (Some 3) None))

  abbrev found : Bool → Bool → Bool → Option (ℕ × ℕ) → Option (ℕ × ℕ)
  found w v u rest = cond w (Some (k + 1, 1)) (cond v (Some (k + 1, 2)) (cond u (Some (k + 1, 3)) rest))

  none_found : (w v u : Bool) (rest : Option (ℕ × ℕ)) → column w v u ≡ None → found w v u rest ≡ rest
  none_found true v u rest e = absurd (cc)
  none_found false true u rest e = absurd (cc)
  none_found false false true rest e = absurd (cc)
  none_found false false false rest e = refl

  one_found : (w v u : Bool) (rest : Option (ℕ × ℕ)) {n : ℕ} → column w v u ≡ Some n → found w v u rest ≡ Some (k + 1, n)
  one_found true v u rest e = cc
  one_found false true u rest e = cc
  one_found false false true rest e = cc
  one_found false false false rest e = absurd (cc)

  -- the tests of the next entry
  abbrev station_test : Bool
  station_test = wrong_station (earlier s k) (get_or s (3 * k) 0)

  abbrev seasons_test : Bool
  seasons_test = wrong_seasons (get_or s (3 * k + 1) 0)

  abbrev area_test : Bool
  area_test = wrong_area (get_or s (3 * k + 2) 0)

  pub searching_found : {n : ℕ} → k < length s / 3 → wrong_at s k ≡ Some n → Some (k + 1, n) ≡ first_wrong [] 1 (entries_of s)
  unfolding first_wrong wrong_at
  searching_found h e =
      sym (a.passed ∙ rw (entries_at s k h) (one_found station_test seasons_test area_test _ e))

  pub searching_step : k < length s / 3 → wrong_at s k ≡ None → Searching s (k + 1)
  unfolding first_wrong wrong_at earlier
  searching_step h e =
      record {
        passed =
            a.passed ∙ rw (entries_at s k h)
            (none_found station_test seasons_test area_test _ e ∙ rw (add-one (k + 1), add-one k));
      }

  pub searching_end : length s / 3 ≤ k → None ≡ first_wrong [] 1 (entries_of s)
  unfolding first_wrong
  searching_end h =
      let l : length (entries_of s) ≤ k = omega (arith, entry_count s) in
      sym (a.passed ∙ rw (drop_of_length-le (entries_of s) l))
