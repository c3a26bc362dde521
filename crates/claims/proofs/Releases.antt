-- Release in the words of the page: the checks of the licence, then what the eight numbers of a pair say.
use Prim.Native.Nat.{ℕ, zero, suc, ◌+◌, ◌*◌, ◌/◌, ◌%◌, ◌≤◌, ◌<◌}
use mathlib.Core.{Path.{◌≡◌, refl}, Bool.{Bool, true, false, cond, not, ◌&&◌, ◌||◌}, Logic.{◌⊎◌, inl, inr}, List.{List, []}}
use native.Mathlib.Omega.{arith}
use lib.{Dec.{leb, ltb, eqb}, IntN.{ℤ}, ListN.{length}}
use borrow.Author.Tests.{ltb-true, ltb-false, eqb-true, eqb-false, eq-eqb, ne_eqb}
use Rattle.text.proofs.Clash.{clash}
use Rattle.case.{specs.{declared.Case.{Case}, Columns.{columns}, Bounds.{Bounds}, Fault.{with_fault}}, proofs.BoundsSound.{bounds_sound}}
use Rattle.case.specs.Counted.{refused_or}
use Rattle.row.specs.Ends.{row_of}
use Rattle.judgement.specs.Sheet.{judgement}
use Rattle.sheet.specs.Answer.{cases}
use Rattle.headroom.proofs.Bracket.{fault_bounds}
use Rattle.hocsimbur.proofs.Answers.{row_told, row_sound, bounds_answered}
use Rattle.std.specs.Prelude.{Option, Some, None}
use Rattle.release.specs.Licence.{entries_of, bad_count, among, wrong_station, wrong_seasons, wrong_area, first_wrong}
use Rattle.release.specs.Earlier.{earlier, wrong_at}
use Rattle.release.specs.Entry.{entry_length, release_of}
use Rattle.release.specs.Answer.{room_answer, after_entries, licence_answer, release_answer, Filled, TableAfter, ReleaseAnswered}
use Rattle.release.specs.Meaning.{licensed_station, licensed_seasons, licensed_area, LineOf}
use Rattle.release.proofs.Entries.{entry_count, Searching, searching_start, searching_found, searching_step, searching_end}
use Rattle.release.proofs.Tables.{release_count}
use Rattle.tally.specs.Lines.{area_of}
use Rattle.release.proofs.ReleasedStations.{entry_numbers, entry_station, one_or_two, released_means, released_none, none_released}
use Rattle.release.proofs.ReleasedStations.{fault_means}
use Rattle.release.specs.Meaning as meaning
use Rattle.claims.specs.{Words.{BreaksNone, case_at}, Later.{FaultInside}}
use Rattle.claims.specs.Releases.{InEntries, StationSound, SeasonsSound, AreaSound, EntrySound, EntryWrong, ReleasedStation}
use Rattle.claims.specs.Releases.{SafeThroughout}
use Rattle.claims.specs.Releases.{FaultReported, EntryTold, ReleaseOutcome}
use Rattle.claims.specs.Releases as claim
use Rattle.claims.proofs.{Betweens.{between_yes, between_no}, Sheets.{cases_count, bounds_at}}
use Rattle.std.specs.Prelude.{Result, Ok, Err}
use Rattle.refusal.specs.{declared.Refused.{Refused}, Refused.{refuse}}

-- ---- tests

or_no : (a b : Bool) → a || b ≡ false → (a ≡ false) × (b ≡ false)
or_no true b e = clash cc
or_no false b e = (refl, e)

not_no : (a : Bool) → not a ≡ false → a ≡ true
not_no true e = refl
not_no false e = clash cc

-- ---- the count of numbers

in_entries : (licence : List ℕ) → bad_count (length licence) ≡ false → InEntries licence (length licence / 3)
unfolding bad_count
in_entries licence e =
    let p = or_no (eqb (length licence) 0) _ e in
    let q = or_no (not (eqb (length licence % 3) 0)) _ p.1 in
    let whole : length licence % 3 ≡ 0 = eqb-true _ _ (not_no _ q.0) in
    let most : length licence ≤ 768 = ltb-false _ _ q.1 in
    let three : length licence ≡ 3 * (length licence / 3) = omega arith in
    record { three_each = three; some = some (length licence / 3) refl three p.0; most = omega arith }
  where
    some : (m : ℕ) → length licence / 3 ≡ m → length licence ≡ 3 * (length licence / 3) → eqb (length licence) 0 ≡ false → 1 ≤ m
    some zero h three e = absurd (eqb-false (length licence) 0 e (omega arith))
    some (suc m) h three e = omega arith

not_in_entries : (licence : List ℕ) → bad_count (length licence) ≡ true → (m : ℕ) → ¬ InEntries licence m
unfolding bad_count
not_in_entries licence e m p = go (eqb (length licence) 0) (eqb (length licence % 3) 0) (ltb 768 (length licence)) refl refl refl e
  where
    go : (a b c : Bool) → eqb (length licence) 0 ≡ a → eqb (length licence % 3) 0 ≡ b → ltb 768 (length licence) ≡ c
        → a || (not b || c) ≡ true → ⊥
    go true b c f g h e = omega (arith, eqb-true (length licence) 0 f, p.three_each, p.some)
    go false false c f g h e = eqb-false (length licence % 3) 0 g (omega (arith, p.three_each))
    go false true true f g h e = omega (arith, ltb-true 768 (length licence) h, p.three_each, p.most)
    go false true false f g h e = clash cc

-- ---- a pair

module _ (licence : List ℕ) where
  none_among : (x k : ℕ) → among x (earlier licence k) ≡ false → (i : ℕ) → i < k → ¬ (licensed_station licence i ≡ x)
  unfolding among earlier
  none_among x zero e i l q = omega arith
  none_among x (suc k) e i l q =
      let p = or_no (eqb (licensed_station licence k) x) (among x (earlier licence k)) e in
      go (ltb i k) refl (λ h. none_among x k p.1 i h q) (eqb-false (licensed_station licence k) x p.0)
    where
      go : (t : Bool) → ltb i k ≡ t → (i < k → ⊥) → ¬ (licensed_station licence k ≡ x) → ⊥
      go true h below here = below (ltb-true i k h)
      go false h below here = let s : i ≡ k = omega (arith, ltb-false i k h) in here (rw s at q)

  some_among : (x k : ℕ) → among x (earlier licence k) ≡ true → ((i : ℕ) → i < k → ¬ (licensed_station licence i ≡ x)) → ⊥
  unfolding among earlier
  some_among x zero e h = clash cc
  some_among x (suc k) e h = go (eqb (licensed_station licence k) x) refl e (λ d. some_among x k d (λ i l. h i (omega arith)))
    where
      go : (t : Bool) → eqb (licensed_station licence k) x ≡ t → t || among x (earlier licence k) ≡ true
          → (among x (earlier licence k) ≡ true → ⊥)
          → ⊥
      go true q e below = h k (omega arith) (eqb-true (licensed_station licence k) x q)
      go false q e below = below e

  module _ (k : ℕ) where
    abbrev own : ℕ
    own = licensed_station licence k

    abbrev column : Bool → Bool → Bool → Option ℕ
    column w v u = cond w (Some 1) (cond v (Some 2) (cond u (Some 3) None))

    station_sound : wrong_station (earlier licence k) own ≡ false → StationSound licence k
    unfolding wrong_station
    station_sound e =
        let p = or_no (not (leb 1 own && leb own 65535)) _ e in
        record { inside = between_yes 1 own 65535 (not_no _ p.0); first = none_among own k p.1 }

    station_wrong : wrong_station (earlier licence k) own ≡ true → ¬ StationSound licence k
    unfolding wrong_station
    station_wrong e s = go (leb 1 own && leb own 65535) refl e
      where
        go : (t : Bool) → leb 1 own && leb own 65535 ≡ t → not t || among own (earlier licence k) ≡ true → ⊥
        go true q e = some_among own k e s.first
        go false q e = between_no 1 own 65535 q s.inside

    seasons_sound : wrong_seasons (licensed_seasons licence k) ≡ false → SeasonsSound licence k
    unfolding wrong_seasons
    seasons_sound e = between_yes 1 (licensed_seasons licence k) 15 (not_no _ e)

    seasons_wrong : wrong_seasons (licensed_seasons licence k) ≡ true → ¬ SeasonsSound licence k
    unfolding wrong_seasons
    seasons_wrong e s = go (leb 1 (licensed_seasons licence k) && leb (licensed_seasons licence k) 15) refl e
      where
        go : (t : Bool) → leb 1 (licensed_seasons licence k) && leb (licensed_seasons licence k) 15 ≡ t → not t ≡ true → ⊥
        go true q e = clash cc
        go false q e = between_no 1 (licensed_seasons licence k) 15 q s

    area_sound : wrong_area (licensed_area licence k) ≡ false → AreaSound licence k
    unfolding wrong_area
    area_sound e = ltb-false _ _ e

    area_wrong : wrong_area (licensed_area licence k) ≡ true → ¬ AreaSound licence k
    unfolding wrong_area
    area_wrong e s = omega (arith, ltb-true 2000 (licensed_area licence k) e)

    judged_entry : ((wrong_at licence k ≡ None) × EntrySound licence k)
        ⊎ ((n : ℕ) × (wrong_at licence k ≡ Some n) × EntryWrong licence k n)
    unfolding wrong_at
    judged_entry =
        go (wrong_station (earlier licence k) own) (wrong_seasons (licensed_seasons licence k)) (wrong_area (licensed_area licence k)) refl refl
        refl
      where
        go : (w v u : Bool) → wrong_station (earlier licence k) own ≡ w → wrong_seasons (licensed_seasons licence k) ≡ v
            → wrong_area (licensed_area licence k) ≡ u
            → ((column w v u ≡ None) × EntrySound licence k) ⊎ ((n : ℕ) × (column w v u ≡ Some n) × EntryWrong licence k n)
        go true v u p q r = inr (1, refl, claim.at_station (station_wrong p))
        go false true u p q r = inr (2, refl, claim.at_seasons (station_sound p) (seasons_wrong q))
        go false false true p q r = inr (3, refl, claim.at_area (station_sound p) (seasons_sound q) (area_wrong r))
        go false false false p q r = inl (refl, (station_sound p, seasons_sound q, area_sound r))

  -- ---- the first pair that is wrong

  data Searched (m : ℕ) : Option (ℕ × ℕ) → Type 0 where
    found : {k column : ℕ} → k < m → EntryWrong licence k column → ((i : ℕ) → i < k → EntrySound licence i) → Searched m (Some (k + 1, column))
    none : ((i : ℕ) → i < m → EntrySound licence i) → Searched m None

  search_on : (fuel k : ℕ) → k + fuel ≡ length licence / 3 → Searching licence k → ((i : ℕ) → i < k → EntrySound licence i)
      → Searched (length licence / 3) (first_wrong [] 1 (entries_of licence))
  search_on zero k e a b = rw (← searching_end a (omega arith)) (none (λ i l. b i (omega arith)))
  search_on (suc fuel) k e a b =
      go (judged_entry k) (λ z p. search_on fuel (k + 1) (omega arith) (searching_step a (omega arith) z)
      (λ i l. below p i l (ltb i k) refl))
    where
      below : EntrySound licence k → (i : ℕ) → i < k + 1 → (t : Bool) → ltb i k ≡ t → EntrySound licence i
      below p i l true h = b i (ltb-true i k h)
      below p i l false h = let s : i ≡ k = omega (arith, ltb-false i k h) in rw s p

      go : ((wrong_at licence k ≡ None) × EntrySound licence k) ⊎ ((n : ℕ) × (wrong_at licence k ≡ Some n) × EntryWrong licence k n)
          → (wrong_at licence k ≡ None → EntrySound licence k → Searched (length licence / 3) (first_wrong [] 1 (entries_of licence)))
          → Searched (length licence / 3) (first_wrong [] 1 (entries_of licence))
      go (inl p) next = next p.0 p.1
      go (inr p) next = rw (← searching_found a (omega arith) p.1) (found {k = k} (omega arith) p.2 b)

  searched : Searched (length licence / 3) (first_wrong [] 1 (entries_of licence))
  searched = search_on (length licence / 3) 0 (omega arith) (searching_start licence) (λ i l. absurd (omega arith))

-- ---- the eight numbers of an entry

own_area : {area : ℕ} (c : Case) → 1 ≤ area → area_of area c ≡ area
unfolding area_of
own_area {area} c h = rw (ne_eqb area 0 (λ z. omega arith))

round_area : {area : ℕ} (c : Case) → area ≡ 0 → area_of area c ≡ 1000 * (c.dia * c.dia) / 64516
unfolding area_of
round_area {area} c e = rw (eq-eqb area 0 e)

module _ {s : List ℕ} {n : ℕ} (b : BreaksNone s n) {station : ℕ} where
  line_bounds : (j : ℕ) → LineOf s station j → Bounds (case_at s j)
  line_bounds j l = bounds_at s b j (omega (arith, l.within, cases_count s n b))

  released_station : {seasons area : ℕ} → meaning.ReleasedStation s station seasons area → ReleasedStation s station seasons area
  released_station m =
      record {
        every_season = m.every_season;
        one_yard = m.one_yard;
        tolerable = λ j l. (m.mesh j l, m.step j l);
        own_wire = λ h j l a. rw (row_sound (case_at s j) a.answer).1 (omega (arith, own_area (case_at s j) h, m.wire j l));
        round_wire = λ e j l a. rw (row_sound (case_at s j) a.answer).1 (omega (arith, round_area (case_at s j) e, m.wire j l));
      }

  module _ (f : ℕ) (i : FaultInside f) where
    to_rows : meaning.SafeThroughout s station f → SafeThroughout s station f
    to_rows h j a l r =
        record { row = row_of (with_fault f (case_at s j)); is = bounds_answered (fault_bounds (line_bounds j l) f i) r; verdict = h j l }

    to_ends : SafeThroughout s station f → meaning.SafeThroughout s station f
    to_ends h j l =
        let told = row_told (with_fault f (case_at s j)) refl (bounds_sound (fault_bounds (line_bounds j l) f i)) refl in
        let w = h j (Ok (row_of (with_fault f (case_at s j)))) l told in
        let same : w.row ≡ row_of (with_fault f (case_at s j)) = cc in
        rw same at w.verdict

  fault_reported : {F : ℕ} → meaning.FaultReported s station F → FaultReported s station F
  fault_reported m =
      record {
        inside = m.in_range_lem;
        exact = λ l f i. (λ h. m.greatest f l i (to_ends f i h), λ u. to_rows f i (m.safe f i u));
        none = λ z f j i l h. m.none z j f l i (to_ends f i h);
      }

module _ {s licence : List ℕ} {before after : List ℤ} where
  told : {n m : ℕ} → BreaksNone s n → ReleaseAnswered s licence before after (Ok m) → (k : ℕ) → k < m → EntryTold s licence after k
  told b a k l =
      record {
        numbers = entry_numbers a k l;
        station = entry_station a k l;
        one_or_two = one_or_two a k l;
        released = (released_none a k l, none_released a k l);
        means = λ e. released_station b (released_means a k l e);
        fault = fault_reported b (fault_means a k l);
      }

  -- ---- the answer

  kept : {r : Result ℕ Refused} {number line column : ℕ} → r ≡ refuse number line column → ReleaseAnswered s licence before after r
      → after ≡ before
  unfolding TableAfter
  kept e h = rw e at h.table_is

  filled : {m : ℕ} → ReleaseAnswered s licence before after (Ok m) → Filled (release_of (entries_of licence) (cases s)) before after
  unfolding TableAfter
  filled a = a.table_is

  roomed : {n m : ℕ} {r : Result ℕ Refused} → BreaksNone s n → InEntries licence m → ((i : ℕ) → i < m → EntrySound licence i)
      → ReleaseAnswered s licence before after r → r ≡ room_answer (length before) m → ReleaseOutcome s licence before after r
  unfolding room_answer
  roomed {n} {m} {r} b p q h e = go (ltb (length before) (entry_length * m)) refl e
    where
      go : (t : Bool) → ltb (length before) (entry_length * m) ≡ t → r ≡ cond t (refuse 23 0 0) (Ok m)
          → ReleaseOutcome s licence before after r
      go true l e = rw e (claim.table b p q (ltb-true _ _ l) (kept e h))
      go false l e =
          let a : ReleaseAnswered s licence before after (Ok m) = (rw e at h) in
          let f = filled a in
          let c : length (release_of (entries_of licence) (cases s)) ≡ m = omega (arith, release_count licence (cases s), p.three_each) in
          rw e (claim.entries b p q (ltb-false _ _ l) (told b a) (rw c at f.rest) f.size)

  paired : {n : ℕ} {r : Result ℕ Refused} → BreaksNone s n → InEntries licence (length licence / 3) → ReleaseAnswered s licence before after r
      → (w : Option (ℕ × ℕ)) → Searched licence (length licence / 3) w → r ≡ after_entries (room_answer (length before) (length (entries_of licence))) w
      → ReleaseOutcome s licence before after r
  unfolding after_entries
  paired b p h _ (found l w q) e = rw e (claim.entry b p l w q (kept e h))
  paired b p h _ (none q) e = roomed b p q h (rw (entry_count licence) at e)

  numbered : {n : ℕ} {r : Result ℕ Refused} → BreaksNone s n → ReleaseAnswered s licence before after r → r ≡ licence_answer licence (length before)
      → ReleaseOutcome s licence before after r
  unfolding licence_answer
  numbered {n} {r} b h e = go (bad_count (length licence)) refl e
    where
      go : (t : Bool) → bad_count (length licence) ≡ t
          → r
          ≡ cond t (refuse 21 0 0) (after_entries (room_answer (length before) (length (entries_of licence)))
          (first_wrong [] 1 (entries_of licence)))
          → ReleaseOutcome s licence before after r
      go true q e = rw e (claim.count b (not_in_entries licence q) (kept e h))
      go false q e = paired b (in_entries licence q) h _ (searched licence) e

  pub release : {r : Result ℕ Refused} → ReleaseAnswered s licence before after r → ReleaseOutcome s licence before after r
  unfolding release_answer refused_or
  release {r} h = go (judgement columns s) refl h.answer_is
    where
      go : (j : Result ℕ Refused) → judgement columns s ≡ j → r ≡ refused_or j (licence_answer licence (length before))
          → ReleaseOutcome s licence before after r
      go (Err why) q e = rw e (claim.rule q (kept e h))
      go (Ok n) q e = numbered q h e
