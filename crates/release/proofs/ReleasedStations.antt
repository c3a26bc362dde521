-- What the eight numbers in the table say of the sheet: a released station, the fault current reported, and that a station is released
-- exactly when the five counts are 0.
use Prim.Native.Nat.{ℕ, ◌+◌, ◌/◌, ◌<◌}
use mathlib.Core.{Path.{◌≡◌, refl, sym, ap, ◌∙◌}, Bool.{Bool, true, false, cond}, List.{List}, Logic.{◌⊎◌, inl, inr}}
use native.Mathlib.Omega.{arith}
use lib.{Dec.{eqb}, IntN.{ℤ, pos, nat_abs}, ListN.{length, get_or}}
use borrow.Author.Tests.{eqb-true, eq-eqb}
use Rattle.tables.specs.Parts.{part_at}
use Rattle.case.specs.declared.Case.{Case}
use Rattle.sheet.specs.Answer.{cases}
use Rattle.release.specs.Licence.{entries_of}
use Rattle.release.specs.{Entry.{entry_length, numbers_of, station_numbers, release_of}, Answer.{Filled, TableAfter, ReleaseAnswered}}
use Rattle.release.specs.Meaning.{answer_at, licensed_station, licensed_seasons, licensed_area, ReleasedStation, FaultReported}
use Rattle.release.specs.Meaning.{NothingFound}
use Rattle.tally.specs.Lines.{lines_of, count_of, missing, answered_unsafe, answered_undecided, other_yard, too_small, first_line}
use Rattle.tally.specs.Tally.{released, EveryBounds}
use Rattle.release.proofs.{Tables.{release_count, release_at}, CountedEntries.{EntriesCounted, entries_counted, cases_bounds}}
use Rattle.release.proofs.StationMeaning.{station_released, fault_reported}
use Rattle.std.specs.Prelude.{Ok}

-- ---- the numbers in the table

sum_none : (a b c d e : ℕ) → pos (released a b c d e) ≡ pos 1 → a + b + c + d + e ≡ 0
unfolding released
sum_none a b c d e h = go (eqb (a + b + c + d + e) 0) refl h
  where
    go : (t : Bool) → eqb (a + b + c + d + e) 0 ≡ t → pos (cond t 1 2) ≡ pos 1 → a + b + c + d + e ≡ 0
    go true q k = eqb-true (a + b + c + d + e) 0 q
    go false q k = let z : ◌≡◌ {A = ℕ} 2 1 = cc in absurd (omega arith)

none_sum : (a b c d e : ℕ) → a + b + c + d + e ≡ 0 → pos (released a b c d e) ≡ pos 1
unfolding released
none_sum a b c d e h = rw (eq-eqb (a + b + c + d + e) 0 h)

choice : {z : ℤ} (a b c d e : ℕ) → z ≡ pos (released a b c d e) → (z ≡ pos 1) ⊎ (z ≡ pos 2)
unfolding released
choice {z} a b c d e h = go (eqb (a + b + c + d + e) 0) h
  where
    go : (t : Bool) → z ≡ pos (cond t 1 2) → (z ≡ pos 1) ⊎ (z ≡ pos 2)
    go true h = inl h
    go false h = inr h

zero_is : {a : ℕ} → pos a ≡ pos 0 → a ≡ 0
zero_is e = cc

module _ {s licence : List ℕ} {before after : List ℤ} {n : ℕ} (a : ReleaseAnswered s licence before after (Ok n)) (k : ℕ)
    (h : k < n) where
  known : EntriesCounted s licence n
  known = entries_counted s licence (length before) n (sym a.answer_is)

  abbrev own : List Case
  own = lines_of (licensed_station licence k) (cases s)

  filled : Filled (release_of (entries_of licence) (cases s)) before after
  unfolding TableAfter
  filled = a.table_is

  numbers_are : part_at entry_length after k ≡ numbers_of (licensed_station licence k) (licensed_seasons licence k) (licensed_area licence k) own
  unfolding station_numbers
  numbers_are =
      let l : k < length licence / 3 = omega (arith, known.count) in
      filled.parts k (omega (arith, release_count licence (cases s), known.count)) ∙ release_at licence (cases s) k l

  number_is : (place : ℕ)
      → answer_at after k place ≡ get_or (numbers_of (licensed_station licence k) (licensed_seasons licence k) (licensed_area licence k) own) place
      (pos 0)
  number_is place = ap (λ (l : List ℤ). get_or l place (pos 0)) numbers_are

  bounded_cases : EveryBounds (cases s)
  bounded_cases = cases_bounds s known.lines known.read

  -- all eight
  pub entry_numbers : part_at entry_length after k ≡ station_numbers (licensed_station licence k) (licensed_seasons licence k)
      (licensed_area licence k) (cases s)
  unfolding station_numbers
  entry_numbers = numbers_are

  -- the first number
  pub entry_station : answer_at after k 0 ≡ pos (licensed_station licence k)
  unfolding numbers_of
  entry_station = number_is 0

  sum_is_none : answer_at after k 1 ≡ pos 1
      → missing (licensed_seasons licence k) own + count_of answered_unsafe own + count_of answered_undecided own
      + count_of (other_yard (first_line own)) own + count_of (too_small (licensed_area licence k)) own
      ≡ 0
  unfolding numbers_of
  sum_is_none e = sum_none _ _ _ _ _ (sym (number_is 1) ∙ e)

  -- "1 released or 2 held"
  pub one_or_two : (answer_at after k 1 ≡ pos 1) ⊎ (answer_at after k 1 ≡ pos 2)
  unfolding numbers_of
  one_or_two = choice _ _ _ _ _ (number_is 1)

  -- of a released station
  pub released_means : answer_at after k 1 ≡ pos 1
      → ReleasedStation s (licensed_station licence k) (licensed_seasons licence k) (licensed_area licence k)
  released_means e =
      let z = sum_is_none e in
      station_released s (licensed_station licence k) bounded_cases (licensed_seasons licence k) (licensed_area licence k) (omega arith)
      (omega arith) (omega arith) (omega arith)
      (omega arith)

  -- "Released exactly when the five counts are 0"
  pub released_none : answer_at after k 1 ≡ pos 1 → NothingFound after k
  unfolding numbers_of
  released_none e =
      let z = sum_is_none e in
      record {
        no_season = number_is 2 ∙ ap pos (omega arith);
        no_unsafe = number_is 3 ∙ ap pos (omega arith);
        no_undecided = number_is 4 ∙ ap pos (omega arith);
        no_other_yard = number_is 5 ∙ ap pos (omega arith);
        no_small_wire = number_is 6 ∙ ap pos (omega arith);
      }

  pub none_released : NothingFound after k → answer_at after k 1 ≡ pos 1
  unfolding numbers_of
  none_released f =
      let p = zero_is (sym (number_is 2) ∙ f.no_season) in
      let q = zero_is (sym (number_is 3) ∙ f.no_unsafe) in
      let r = zero_is (sym (number_is 4) ∙ f.no_undecided) in
      let u = zero_is (sym (number_is 5) ∙ f.no_other_yard) in
      let v = zero_is (sym (number_is 6) ∙ f.no_small_wire) in
      number_is 1 ∙ none_sum _ _ _ _ _ (omega arith)

  -- the fault current
  pub fault_means : FaultReported s (licensed_station licence k) (nat_abs (answer_at after k 7))
  unfolding numbers_of
  fault_means = rw (number_is 7) (fault_reported s (licensed_station licence k) bounded_cases)
