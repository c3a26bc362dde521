-- The season named belongs to a row of the station whose upper mesh end no row of the station exceeds and no earlier one equals.
use Prim.Native.Nat.{ℕ, zero, suc, ◌<◌}
use mathlib.Core.{Path.{◌≡◌, refl, sym, ap, ◌∙◌}, Bool.{Bool, true, false, cond, ◌||◌}, List.{List, [], ◌∷◌, map}}
use native.Mathlib.Omega.{arith}
use lib.{IntN.{ℤ, pos}, ListN.{length, get_or}, Signed.{lt_z, ◌≤ℤ◌, ◌<ℤ◌, lt_z_no, ≤ℤ_refl}}
use Rattle.whole.{proofs.Signed.{le_halves, halves_le, lt_halves, halves_lt}, specs.Count.{one}}
use Rattle.text.proofs.Clash.{clash}
use Rattle.row.specs.declared.Row.{Row}
use Rattle.station_sums.specs.Summary.{same_z, among, stations_of, rows_of, higher, highest, worst_season, stations, station_numbers}
use Rattle.station_sums.specs.{Summary.{summary_of}, Meaning.{times, number_of, HighestAt, WorstSeason}}
use Rattle.station_sums.proofs.{Same.{same_refl}, StandsOnce.{stands_once}}

-- ---- the order of mesh ends

le_lt : {a b c : ℤ} → a ≤ℤ b → b <ℤ c → a <ℤ c
le_lt {a} {b} {c} h k = halves_lt a c (omega (arith, le_halves h, lt_halves k))

lt_le : {a b c : ℤ} → a <ℤ b → b ≤ℤ c → a <ℤ c
lt_le {a} {b} {c} h k = halves_lt a c (omega (arith, lt_halves h, le_halves k))

le_le : {a b c : ℤ} → a ≤ℤ b → b ≤ℤ c → a ≤ℤ c
le_le {a} {b} {c} h k = halves_le a c (omega (arith, le_halves h, le_halves k))

weaken : {a b : ℤ} → a <ℤ b → a ≤ℤ b
weaken {a} {b} h = halves_le a b (omega (arith, lt_halves h))

-- ---- the highest of a row and those after it

record HighestRow (none x : Row) (rows : List Row) : Type 0 where
  line : ℕ
  at : HighestAt (x ∷ rows) none line
  is : highest x rows ≡ get_or (x ∷ rows) line none

-- the second row is higher than the first
highest_later : {none x y : Row} {rows : List Row} → x.mesh.upper <ℤ y.mesh.upper → (r : HighestRow none y rows)
    → HighestAt (x ∷ y ∷ rows) none (suc r.line)
highest_later {none} {x} {y} {rows} h r =
    record { within = omega (arith, r.at.within); highest = at_highest; earlier = at_earlier }
  where
    below : x.mesh.upper <ℤ (get_or (y ∷ rows) r.line none).mesh.upper
    below = lt_le h (r.at.highest zero (omega arith))

    at_highest : (j : ℕ) → j < suc (suc (length rows))
        → (get_or (x ∷ y ∷ rows) j none).mesh.upper ≤ℤ (get_or (y ∷ rows) r.line none).mesh.upper
    at_highest zero l = weaken below
    at_highest (suc j) l = r.at.highest j (omega arith)

    at_earlier : (j : ℕ) → j < suc r.line → (get_or (x ∷ y ∷ rows) j none).mesh.upper <ℤ (get_or (y ∷ rows) r.line none).mesh.upper
    at_earlier zero l = below
    at_earlier (suc j) l = r.at.earlier j (omega arith)

-- the second row is not higher than the first: the line of the highest with the second put between
past : ℕ → ℕ
past zero = zero
past (suc k) = suc (suc k)

module _ {none x : Row} (y : Row) {rows : List Row} (h : y.mesh.upper ≤ℤ x.mesh.upper) (r : HighestRow none x rows) where
  past_is : (k : ℕ) → get_or (x ∷ y ∷ rows) (past k) none ≡ get_or (x ∷ rows) k none
  unfolding past
  past_is zero = refl
  past_is (suc k) = refl

  past_within : (k : ℕ) → k < suc (length rows) → past k < suc (suc (length rows))
  unfolding past
  past_within zero l = omega arith
  past_within (suc k) l = omega arith

  at_highest : (j : ℕ) → j < suc (suc (length rows))
      → (get_or (x ∷ y ∷ rows) j none).mesh.upper ≤ℤ (get_or (x ∷ rows) r.line none).mesh.upper
  at_highest zero l = r.at.highest zero (omega arith)
  at_highest (suc zero) l = le_le h (r.at.highest zero (omega arith))
  at_highest (suc (suc j)) l = r.at.highest (suc j) (omega arith)

  at_earlier : (k j : ℕ) → ((j : ℕ) → j < k → (get_or (x ∷ rows) j none).mesh.upper <ℤ (get_or (x ∷ rows) r.line none).mesh.upper)
      → j < past k → (get_or (x ∷ y ∷ rows) j none).mesh.upper <ℤ (get_or (x ∷ rows) r.line none).mesh.upper
  unfolding past
  at_earlier zero j e l = absurd (omega arith)
  at_earlier (suc k) zero e l = e zero (omega arith)
  at_earlier (suc k) (suc zero) e l = le_lt h (e zero (omega arith))
  at_earlier (suc k) (suc (suc j)) e l = e (suc j) (omega arith)

  highest_earlier : HighestAt (x ∷ y ∷ rows) none (past r.line)
  highest_earlier =
      record {
        within = past_within r.line r.at.within;
        highest = λ j l. rw (past_is r.line) (at_highest j l);
        earlier = λ j l. rw (past_is r.line) (at_earlier r.line j r.at.earlier l);
      }

highest_row : (none x : Row) (rows : List Row) → HighestRow none x rows
unfolding highest higher
highest_row none x [] =
    record { line = 0; at = record { within = omega arith; highest = only; earlier = λ j l. absurd (omega arith) }; is = refl }
  where
    only : (j : ℕ) → j < 1 → (get_or (x ∷ []) j none).mesh.upper ≤ℤ x.mesh.upper
    only zero l = ≤ℤ_refl x.mesh.upper
    only (suc j) l = absurd (omega arith)
highest_row none x (y ∷ rows) = go (lt_z x.mesh.upper y.mesh.upper) refl (highest_row none x rows) (highest_row none y rows)
  where
    go : (b : Bool) → lt_z x.mesh.upper y.mesh.upper ≡ b → HighestRow none x rows → HighestRow none y rows
        → HighestRow none x (y ∷ rows)
    go true e p q =
        record {
          line = suc q.line;
          at = highest_later (record { lt = rw e tt }) q;
          is = ap (λ (b : Bool). highest (cond b y x) rows) e ∙ q.is;
        }
    go false e p q =
        let below : y.mesh.upper ≤ℤ x.mesh.upper = lt_z_no {a = x.mesh.upper} {b = y.mesh.upper} (rw e tt) in
        record {
          line = past p.line;
          at = highest_earlier y below p;
          is = ap (λ (b : Bool). highest (cond b y x) rows) e ∙ p.is ∙ sym (past_is y below p p.line);
        }

-- ---- the season named

worst_season_lem : (none : Row) (rows : List Row) → 0 < length rows → WorstSeason rows none (worst_season rows)
unfolding worst_season
worst_season_lem none [] h = absurd (omega arith)
worst_season_lem none (x ∷ rows) h =
    let r = highest_row none x rows in
    record { line = r.line; highest_at = r.at; season_is = ap (λ (y : Row). y.season) r.is }

-- a station has a row
some_row : (x : ℤ) (rows : List Row) → among x (stations_of rows) ≡ true → 0 < length (rows_of x rows)
unfolding among rows_of
some_row x [] e = clash cc
some_row x (r ∷ rows) e = go (same_z x r.station) e (some_row x rows)
  where
    go : (b : Bool) → b || among x (stations_of rows) ≡ true → (among x (stations_of rows) ≡ true → 0 < length (rows_of x rows))
        → 0 < length (cond b (r ∷ rows_of x rows) (rows_of x rows))
    go true h rest = omega arith
    go false h rest = rest h

stands : (l : List ℤ) (i : ℕ) → i < length l → 0 < times (get_or l i (pos 0)) l
unfolding times one
stands [] i h = absurd (omega arith)
stands (x ∷ l) zero h = rw (same_refl x) (omega arith)
stands (x ∷ l) (suc i) h = omega (arith, stands l i (omega arith))

station_row : (rows : List Row) (i : ℕ) → i < length (stations rows) → 0 < length (rows_of (get_or (stations rows) i (pos 0)) rows)
unfolding one
station_row rows i h = some_row (get_or (stations rows) i (pos 0)) rows (go (among (get_or (stations rows) i (pos 0)) (stations_of rows)) refl)
  where
    go : (b : Bool) → among (get_or (stations rows) i (pos 0)) (stations_of rows) ≡ b → b ≡ true
    go true e = refl
    go false e = absurd (omega (arith, stands (stations rows) i h, stands_once (get_or (stations rows) i (pos 0)) rows ∙ ap one e))

-- the last number of each station of the summary
pub season_named : (none : Row) (rows : List Row) (i : ℕ) → i < length (summary_of rows)
    → WorstSeason (rows_of (number_of 0 (get_or (summary_of rows) i [])) rows) none (number_of 5 (get_or (summary_of rows) i []))
unfolding summary_of station_numbers
season_named none rows i h = go (stations rows) i (station_row rows) h
  where
    go : (l : List ℤ) (i : ℕ) → ((i : ℕ) → i < length l → 0 < length (rows_of (get_or l i (pos 0)) rows))
        → i < length (map (λ station. station_numbers station (rows_of station rows)) l)
        → WorstSeason (rows_of (number_of 0 (get_or (map (λ station. station_numbers station (rows_of station rows)) l) i [])) rows) none
        (number_of 5 (get_or (map (λ station. station_numbers station (rows_of station rows)) l) i []))
    go [] i some h = absurd (omega arith)
    go (x ∷ l) zero some h = worst_season_lem none (rows_of x rows) (some zero (omega arith))
    go (x ∷ l) (suc i) some h = go l i (λ j g. some (suc j) (omega arith)) (omega arith)
