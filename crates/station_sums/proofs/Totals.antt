-- §7.1: "The three counts add up to the seasons, and the seasons over all stations to the rows."
use Prim.Native.Nat.{ℕ, zero, suc, ◌+◌, ◌<◌}
use mathlib.Core.{Path.{◌≡◌, refl, ap, ◌∙◌}, Bool.{Bool, true, false, cond, ◌||◌}, List.{List, [], ◌∷◌, map}}
use native.Mathlib.Omega.{arith}
use lib.{Dec.{eqb}, IntN.{ℤ, pos}, ListN.{length, get_or}}
use Rattle.whole.specs.Count.{one}
use Rattle.decision.specs.{declared.Verdict.{TheVariants.{Safe, Unsafe, Undecided}, Verdict}, Verdict.{verdict_number}}
use Rattle.row.specs.declared.Row.{Row}
use Rattle.station_sums.specs.Summary.{same_z, among, stations_of, stations, rows_of, count_of, station_numbers, summary_of}
use Rattle.station_sums.specs.Meaning.{times, total, CountsAddUp}
use Rattle.station_sums.proofs.{Same.{same_refl}, StandsOnce.{stands_once}}

-- ---- the three counts

one_verdict : (v : Verdict)
    → one (eqb (verdict_number v) (verdict_number Safe)) + one (eqb (verdict_number v) (verdict_number Unsafe))
    + one (eqb (verdict_number v) (verdict_number Undecided)) ≡ 1
unfolding verdict_number one
one_verdict Safe = refl
one_verdict Unsafe = refl
one_verdict Undecided = refl

verdicts_add_up : (rows : List Row) → count_of Safe rows + count_of Unsafe rows + count_of Undecided rows ≡ length rows
unfolding count_of
verdicts_add_up [] = refl
verdicts_add_up (r ∷ rows) = omega (arith, verdicts_add_up rows, one_verdict r.verdict)

pub counts_add_up : (rows : List Row) (i : ℕ) → i < length (summary_of rows) → CountsAddUp (get_or (summary_of rows) i [])
unfolding summary_of station_numbers
counts_add_up rows i h = go (stations rows) i h
  where
    go : (l : List ℤ) (i : ℕ) → i < length (map (λ station. station_numbers station (rows_of station rows)) l)
        → CountsAddUp (get_or (map (λ station. station_numbers station (rows_of station rows)) l) i [])
    go [] i h = absurd (omega arith)
    go (x ∷ l) zero h = record { add_up = verdicts_add_up (rows_of x rows) }
    go (x ∷ l) (suc i) h = go l i (omega arith)

-- ---- the seasons over all stations

-- the rows of all stations of a list
abbrev all_seasons : List ℤ → List Row → ℕ
all_seasons l rows = total 1 (map (λ station. station_numbers station (rows_of station rows)) l)

seasons_none : (l : List ℤ) → all_seasons l [] ≡ 0
unfolding total station_numbers rows_of
seasons_none [] = refl
seasons_none (x ∷ l) = omega (arith, seasons_none l)

-- one row more is counted at its own station
seasons_more : (l : List ℤ) (r : Row) (rows : List Row) → all_seasons l (r ∷ rows) ≡ times r.station l + all_seasons l rows
unfolding total station_numbers rows_of times one
seasons_more [] r rows = refl
seasons_more (x ∷ l) r rows = go (same_z x r.station) (seasons_more l r rows)
  where
    go : (b : Bool) → all_seasons l (r ∷ rows) ≡ times r.station l + all_seasons l rows
        → length (cond b (r ∷ rows_of x rows) (rows_of x rows)) + all_seasons l (r ∷ rows)
        ≡ one b + times r.station l + (length (rows_of x rows) + all_seasons l rows)
    go true e = omega arith
    go false e = omega arith

seasons_of : (l : List ℤ) (rows : List Row) → ((i : ℕ) → i < length rows → times (get_or (stations_of rows) i (pos 0)) l ≡ 1)
    → all_seasons l rows ≡ length rows
seasons_of l [] h = seasons_none l
seasons_of l (r ∷ rows) h = omega (arith, seasons_more l r rows, h zero (omega arith), seasons_of l rows (λ i g. h (suc i) (omega arith)))

row_among : (rows : List Row) (i : ℕ) → i < length rows → among (get_or (stations_of rows) i (pos 0)) (stations_of rows) ≡ true
unfolding among
row_among [] i h = absurd (omega arith)
row_among (r ∷ rows) zero h = rw (same_refl r.station)
row_among (r ∷ rows) (suc i) h = go (same_z (get_or (stations_of rows) i (pos 0)) r.station) (row_among rows i (omega arith))
  where
    go : (b : Bool) {c : Bool} → c ≡ true → b || c ≡ true
    go true e = refl
    go false e = e

pub seasons_add_up : (rows : List Row) → total 1 (summary_of rows) ≡ length rows
unfolding summary_of one
seasons_add_up rows =
    seasons_of (stations rows) rows (λ i h. stands_once (get_or (stations_of rows) i (pos 0)) rows ∙ ap one (row_among rows i h))
