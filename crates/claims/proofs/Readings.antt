-- §9.1: every answer to a list of readings.
use Prim.Native.Nat.{ℕ, zero, suc, ◌+◌, ◌*◌, ◌/◌, ◌%◌, ◌≤◌, ◌<◌}
use mathlib.Core.{Path.{◌≡◌, refl, sym, ap, ◌∙◌}, Bool.{Bool, true, false, cond, ◌&&◌}, Logic.{inl, inr}, List.{List, [], ◌∷◌, Memᴰ}}
use native.Mathlib.{Omega.{arith}, Decide.{dec_le}}
use lib.{Dec.{leb, eqb, le→leb, lt→ltb, lit≤}, IntN.{ℤ, pos, nat_abs}, ListN.{length, get_or, drop}, Seq.{get_or-drop}}
use lib.Signed.{◌≤ℤ◌, ◌<ℤ◌, le_z_yes, lt_z_yes}
use borrow.Author.Tests.{leb-true, leb-false, eqb-true, eqb-false}
use Rattle.whole.{specs.Whole.{ceil_div}, proofs.Rounding.{ceil_div_above, ceil_div_by}}
use Rattle.interval.specs.{declared.Interval.{Interval}, Operations.{natural}}
use Rattle.exact.specs.{Exact.{AtOrBelow}, Reported.{ten}}
use Rattle.std.specs.Prelude.{Option, Some, None}
use Rattle.readings.specs.declared.outside.Range.{Range}
use Rattle.readings.specs.Reading.{Reading, pairs_of}
use Rattle.readings.specs.Limits.{distances, resistances, in_range}
use Rattle.readings.specs.Refusal.{sound_count, number_in, first_outside, refused_at, judged, answer_of}
use Rattle.readings.specs.{Resistivity.{apparent, least, greatest}, Report.{μΩm, soil_of, RightReport}, Ends.{products_of, report_of}}
use Rattle.readings.{specs.Answer.{RightAnswer, Answered}, proofs.Pairs.{pair_count, pair_at, pairs_at}}
use Rattle.readings.proofs.Extent.{least_below, greatest_above, least_some, greatest_some}
use Rattle.readings.proofs.Spans as spans
use Rattle.text.proofs.Clash.{clash}
use Rattle.numbers.proofs.Readings.{reading_numbers}
use Rattle.claims.specs.Measured.{WrongCount, DistanceInside, ResistanceInside, FirstPair, SoilReport, SoilOutcome, count, distance}
use Rattle.claims.specs.Measured.{resistance, soil}
use Rattle.claims.proofs.Betweens.{and_yes, between_yes, between_no}
use Rattle.std.specs.Prelude.{Result, Ok}
use Rattle.refusal.specs.{declared.Refused.{Refused}, Refused.{refuse}}
use Rattle.readings.specs.declared.Report.{Report}

-- ---- the count

count_wrong : (n : ℕ) → sound_count n ≡ false → WrongCount n
unfolding sound_count
count_wrong n h = go (leb 1 n) refl (eqb (n % 2) 0) refl (leb n 128) refl h
  where
    go : (a : Bool) → leb 1 n ≡ a → (b : Bool) → eqb (n % 2) 0 ≡ b → (d : Bool) → leb n 128 ≡ d → a && (b && d) ≡ false → WrongCount n
    go false e b f d g k = let l = leb-false 1 n e in inl (omega arith)
    go true e false f d g k = let l = eqb-false (n % 2) 0 f in inr (inl (omega arith))
    go true e true f false g k = let l = leb-false n 128 g in inr (inr (omega arith))
    go true e true f true g k = clash cc

count_right : (n : ℕ) → sound_count n ≡ true → ¬ WrongCount n
unfolding sound_count
count_right n h w =
    let a = and_yes _ _ h in
    let b = and_yes _ _ a.1 in
    go (leb-true 1 n a.0) (eqb-true (n % 2) 0 b.0) (leb-true n 128 b.1) w
  where
    go : 1 ≤ n → n % 2 ≡ 0 → n ≤ 128 → WrongCount n → ⊥
    go p q r (inl e) = omega arith
    go p q r (inr (inl e)) = omega arith
    go p q r (inr (inr e)) = omega arith

two_numbers : (s : List ℕ) → ¬ WrongCount (length s) → 1 ≤ length (pairs_of s)
two_numbers s h = go (length s) refl
  where
    go : (n : ℕ) → length s ≡ n → 1 ≤ length (pairs_of s)
    go zero e = absurd (h (inl e))
    go (suc zero) e = absurd (h (inr (inl (rw e))))
    go (suc (suc n)) e = omega (arith, pair_count s)

-- ---- the first pair with a number out of its range

no_reading : Reading
no_reading = record { distance = 0; resistance = 0 }

pair_is : (s : List ℕ) (i : ℕ) → i < length s / 2 → get_or (pairs_of s) i no_reading ≡ pair_at s i
pair_is s i h =
    let z : i + 0 ≡ i = omega arith in
    let e : get_or (drop i (pairs_of s)) 0 no_reading ≡ get_or (pairs_of s) i no_reading = rw z at (get_or-drop i (pairs_of s) 0 no_reading) in
    sym e ∙ ap (λ (l : List Reading). get_or l 0 no_reading) (pairs_at s i h)

-- the number in a column of pair i of a list is in a range
inside_at : Range → ℕ → List Reading → ℕ → Bool
inside_at range column ps i = in_range range (number_in column (get_or ps i no_reading))

data First (range : Range) (column place : ℕ) (ps : List Reading) : Option ℕ → Type 0 where
  nothing : ((i : ℕ) → i < length ps → inside_at range column ps i ≡ true) → First range column place ps None
  at : (p i : ℕ) → p ≡ place + i → i < length ps → inside_at range column ps i ≡ false
      → ((j : ℕ) → j < i → inside_at range column ps j ≡ true) → First range column place ps (Some p)

first : (range : Range) (column place : ℕ) (ps : List Reading) → First range column place ps (first_outside range column place ps)
unfolding first_outside inside_at
first range column place [] = nothing (λ i h. absurd (omega arith))
first range column place (p ∷ ps) = go (in_range range (number_in column p)) refl (first range column (suc place) ps)
  where
    go : {found : Option ℕ} (b : Bool) → in_range range (number_in column p) ≡ b → First range column (suc place) ps found
        → First range column place (p ∷ ps) (cond b found (Some place))
    go false e f = at place 0 (omega arith) (omega arith) e (λ j h. absurd (omega arith))
    go true e (nothing all) = nothing each
      where
        each : (i : ℕ) → i < suc (length ps) → inside_at range column (p ∷ ps) i ≡ true
        each zero h = e
        each (suc i) h = all i (omega arith)
    go true e (at o i q l f b) = at o (suc i) (omega arith) (omega arith) f before
      where
        before : (j : ℕ) → j < suc i → inside_at range column (p ∷ ps) j ≡ true
        before zero h = e
        before (suc j) h = b j (omega arith)

-- ---- in the numbers of the list

module _ (s : List ℕ) where
  -- a property of the pairs by their numbers, and the test that shows it
  record Tested (P : ℕ → Type 0) (range : Range) (column : ℕ) : Type 0 where
    so : (i : ℕ) → i < length s / 2 → inside_at range column (pairs_of s) i ≡ true → P i
    not : (i : ℕ) → i < length s / 2 → inside_at range column (pairs_of s) i ≡ false → ¬ P i

  distances_tested : Tested (DistanceInside s) distances 1
  unfolding inside_at in_range number_in
  distances_tested =
      record {
        so = λ i h e. between_yes 500 (get_or s (2 * i) 0) 50000 (rw (pair_is s i h) at e);
        not = λ i h e. between_no 500 (get_or s (2 * i) 0) 50000 (rw (pair_is s i h) at e);
      }

  resistances_tested : Tested (ResistanceInside s) resistances 2
  unfolding inside_at in_range number_in
  resistances_tested =
      record {
        so = λ i h e. between_yes 1 (get_or s (2 * i + 1) 0) 1000000 (rw (pair_is s i h) at e);
        not = λ i h e. between_no 1 (get_or s (2 * i + 1) 0) 1000000 (rw (pair_is s i h) at e);
      }

  module _ {P : ℕ → Type 0} {range : Range} {column : ℕ} (t : Tested P range column) where
    all_so : ((i : ℕ) → i < length (pairs_of s) → inside_at range column (pairs_of s) i ≡ true) → (i : ℕ) → i < length s / 2 → P i
    all_so h i l = t.so i l (h i (omega (arith, pair_count s)))

    first_not : (i : ℕ) → i < length (pairs_of s) → inside_at range column (pairs_of s) i ≡ false
        → ((j : ℕ) → j < i → inside_at range column (pairs_of s) j ≡ true) → FirstPair s P i
    first_not i l e b =
        let h : i < length s / 2 = omega (arith, pair_count s) in
        record { within = h; not_so = t.not i h e; before = λ j k. t.so j (omega arith) (b j k) }

-- ---- the report

least_of_lem : (ps : List Reading) → 1 ≤ length ps → (q : Reading) × Memᴰ q ps × AtOrBelow (apparent q) (least ps)
least_of_lem [] h = absurd (omega arith)
least_of_lem (p ∷ ps) h = least_some p ps

greatest_of_lem : (ps : List Reading) → 1 ≤ length ps → (q : Reading) × Memᴰ q ps × AtOrBelow (greatest ps) (apparent q)
greatest_of_lem [] h = absurd (omega arith)
greatest_of_lem (p ∷ ps) h = greatest_some p ps

-- a natural upper end rounded up to whole ohm metres
rounded : {z : ℤ} {n k : ℕ} → z ≡ pos n → k ≡ ceil_div n 1000000 → (z ≤ℤ pos (1000000 * k)) × ((m : ℕ) → m < k → pos (1000000 * m) <ℤ z)
rounded {n = n} {k = k} e q =
    let d : 0 < 1000000 = omega arith in (
      rw e (le_z_yes (le→leb n (1000000 * k) (omega (arith, ceil_div_above n d)))),
      λ m l. rw e (lt_z_yes (lt→ltb (1000000 * m) n (more m l))),
    )
  where
    more : (m : ℕ) → m < k → 1000000 * m < n
    more m l = go (dec_le n (m * 1000000))
      where
        go : Dec (n ≤ m * 1000000) → 1000000 * m < n
        go (yes h) = absurd (omega (arith, ceil_div_by n {w = m} (lit≤ tt) h))
        go (no h) = omega (arith, h)

module _ (s : List ℕ) (some : 1 ≤ length (pairs_of s)) (right : RightReport (pairs_of s) (report_of (pairs_of s))) where
  report : SoilReport s (report_of (pairs_of s))
  unfolding report_of soil_of μΩm ten natural
  report =
      let l = least_of_lem (pairs_of s) some in
      let g = greatest_of_lem (pairs_of s) some in
      let e = ap (λ (i : Interval). i.upper) (spans.ends_are (products_of (pairs_of s)).total some) in
      let soil = rounded e (right.soil ∙ ap (λ z. ceil_div (nat_abs z) 1000000) e) in
      record {
        least = right.least;
        greatest = right.greatest;
        mean = right.mean;
        numbers_are = reading_numbers (pairs_of s) some;
        least_of_all = record { below = λ p m. least_below p (pairs_of s) m; reading = l.0; among = l.1; reached = l.2 };
        greatest_of_all = record { above = λ p m. greatest_above p (pairs_of s) m; reading = g.0; among = g.1; reached = g.2 };
        soil = soil.0;
        no_less = soil.1;
      }

-- ---- the claim

pub soil_outcome : {s : List ℕ} {r : Result Report Refused} → Answered s r → SoilOutcome s r
unfolding answer_of judged refused_at RightAnswer
soil_outcome {s} {r} a = rw a.answer (counted (sound_count (length s)) refl (rw a.answer at a.right))
  where
    judge : 1 ≤ length (pairs_of s) → ¬ WrongCount (length s) → (f g : Option ℕ) → First distances 1 1 (pairs_of s) f
        → First resistances 2 1 (pairs_of s) g → RightAnswer (pairs_of s) (refused_at 13 1 f (refused_at 14 2 g (Ok (report_of (pairs_of s)))))
        → SoilOutcome s (refused_at 13 1 f (refused_at 14 2 g (Ok (report_of (pairs_of s)))))
    judge some n (Some _) g (at p i e l f b) k h =
        let z : p ≡ suc i = omega arith in rw z (distance {i = i} n (first_not s (distances_tested s) i l f b))
    judge some n None (Some _) (nothing d) (at p i e l f b) h =
        let z : p ≡ suc i = omega arith in
        rw z (resistance {i = i} n (all_so s (distances_tested s) d) (first_not s (resistances_tested s) i l f b))
    judge some n None None (nothing d) (nothing k) h =
        soil n (all_so s (distances_tested s) d) (all_so s (resistances_tested s) k) (report s some h)

    some_pair : sound_count (length s) ≡ true → 1 ≤ length (pairs_of s)
    some_pair e = two_numbers s (count_right (length s) e)

    counted : (b : Bool) → sound_count (length s) ≡ b
        → RightAnswer (pairs_of s) (cond b (judged (pairs_of s) (report_of (pairs_of s))) (refuse 12 0 0))
        → SoilOutcome s (cond b (judged (pairs_of s) (report_of (pairs_of s))) (refuse 12 0 0))
    counted false e h = count (count_wrong (length s) e)
    counted true e h =
        judge (some_pair e) (count_right (length s) e) _ _ (first distances 1 1 (pairs_of s)) (first resistances 2 1 (pairs_of s)) h
