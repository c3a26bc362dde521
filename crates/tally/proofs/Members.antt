-- The lines of a station are the value lines that name it; what the counts of 0 and the tests say of each of them.
use Prim.Native.Nat.{ℕ, zero, suc, ◌≤◌, ◌<◌}
use mathlib.Core.{Path.{◌≡◌, refl}, Bool.{Bool, true, false, cond, not, ◌&&◌, ◌||◌}, List.{List, [], ◌∷◌}}
use native.Mathlib.Omega.{arith}
use lib.{Dec.{eqb}, ListN.{length, get_or}}
use borrow.Author.Tests.{eqb-true, eq-eqb}
use Rattle.whole.specs.Count.{one}
use Rattle.text.proofs.Clash.{clash}
use Rattle.case.specs.{declared.Case.{Case}, Case.{case_of}, Bounds.{Bounds}, Fault.{with_fault}}
use Rattle.yards.specs.Yards.{is_safe}
use Rattle.tally.specs.{Lines.{licensed, lines_of, count_of, has_line, without, missing}, Fault.{every_safe}, Tally.{EveryBounds}}
use Rattle.tally.proofs.Faults.{left, right}

-- c stands in the list at a place
pub record Member (c : Case) (cs : List Case) : Type 0 where
  pub place : ℕ
  pub within : place < length cs
  pub is : get_or cs place (case_of []) ≡ c

member_later : {c d : Case} {cs : List Case} → Member c cs → Member c (d ∷ cs)
member_later m = record { place = suc m.place; within = omega (arith, m.within); is = m.is }

-- ---- the lines of a station

module _ (station : ℕ) where
  pub line_member : (cs : List Case) (j : ℕ) → j < length cs → (get_or cs j (case_of [])).station ≡ station
      → Member (get_or cs j (case_of [])) (lines_of station cs)
  unfolding lines_of
  line_member [] j h e = absurd (omega arith)
  line_member (c ∷ cs) zero h e = rw (eq-eqb c.station station e) (record { place = 0; within = omega arith; is = refl })
  line_member (c ∷ cs) (suc j) h e = go (eqb c.station station) (line_member cs j (omega arith) e)
    where
      go : (t : Bool) → Member (get_or cs j (case_of [])) (lines_of station cs)
          → Member (get_or cs j (case_of [])) (cond t (c ∷ lines_of station cs) (lines_of station cs))
      go true m = member_later m
      go false m = m

  -- a line of the station stands in the sheet
  pub record Found (cs : List Case) (x : Case) : Type 0 where
    pub member : Member x cs
    pub own : x.station ≡ station

  found_later : {c x : Case} {cs : List Case} → Found cs x → Found (c ∷ cs) x
  found_later f = record { member = member_later f.member; own = f.own }

  pub member_line : (cs : List Case) (x : Case) (k : ℕ) → k < length (lines_of station cs) → get_or (lines_of station cs) k (case_of []) ≡ x
      → Found cs x
  unfolding lines_of
  member_line [] x k h e = absurd (omega arith)
  member_line (c ∷ cs) x k h e = go (eqb c.station station) refl k h e (λ i l q. member_line cs x i l q)
    where
      go : (t : Bool) → eqb c.station station ≡ t → (i : ℕ) → i < length (cond t (c ∷ lines_of station cs) (lines_of station cs))
          → get_or (cond t (c ∷ lines_of station cs) (lines_of station cs)) i (case_of []) ≡ x
          → ((i : ℕ) → i < length (lines_of station cs) → get_or (lines_of station cs) i (case_of []) ≡ x → Found cs x) → Found (c ∷ cs) x
      go true t zero l q later =
          record { member = record { place = 0; within = omega arith; is = q }; own = rw (← q) (eqb-true c.station station t) }
      go true t (suc i) l q later = found_later (later i (omega arith) q)
      go false t i l q later = found_later (later i l q)

-- ---- what holds of every line

pub every_at : (cs : List Case) → EveryBounds cs → (k : ℕ) → k < length cs → Bounds (get_or cs k (case_of []))
unfolding EveryBounds
every_at [] b k h = absurd (omega arith)
every_at (c ∷ cs) b zero h = b.0
every_at (c ∷ cs) b (suc k) h = every_at cs b.1 k (omega arith)

pub every_bounds : (cs : List Case) → ((k : ℕ) → k < length cs → Bounds (get_or cs k (case_of []))) → EveryBounds cs
unfolding EveryBounds
every_bounds [] b = tt
every_bounds (c ∷ cs) b = (b 0 (omega arith), every_bounds cs (λ k h. b (suc k) (omega arith)))

pub lines_bounds : (station : ℕ) (cs : List Case) → EveryBounds cs → EveryBounds (lines_of station cs)
unfolding EveryBounds lines_of
lines_bounds station [] b = tt
lines_bounds station (c ∷ cs) b = go (eqb c.station station) (lines_bounds station cs b.1)
  where
    go : (t : Bool) → EveryBounds (lines_of station cs) → EveryBounds (cond t (c ∷ lines_of station cs) (lines_of station cs))
    go true d = (b.0, d)
    go false d = d

-- ---- a count of 0

none_counted : (b : Bool) → one b ≡ 0 → b ≡ false
unfolding one
none_counted true e = absurd (omega arith)
none_counted false e = refl

pub count_none : (test : Case → Bool) (cs : List Case) → count_of test cs ≡ 0 → (k : ℕ) → k < length cs
    → test (get_or cs k (case_of [])) ≡ false
unfolding count_of
count_none test [] e k h = absurd (omega arith)
count_none test (c ∷ cs) e zero h = none_counted (test c) (omega arith)
count_none test (c ∷ cs) e (suc k) h = count_none test cs (omega arith) k (omega arith)

-- ---- the seasons

-- a line of a season
pub record Seasoned (season : ℕ) (cs : List Case) : Type 0 where
  pub place : ℕ
  pub within : place < length cs
  pub season_is : (get_or cs place (case_of [])).season ≡ season

pub has_line_lem : (season : ℕ) (cs : List Case) → has_line season cs ≡ true → Seasoned season cs
unfolding has_line
has_line_lem season [] e = clash cc
has_line_lem season (c ∷ cs) e = go (eqb c.season season) refl e (λ h. has_line_lem season cs h)
  where
    go : (t : Bool) → eqb c.season season ≡ t → (t || has_line season cs) ≡ true → (has_line season cs ≡ true → Seasoned season cs)
        → Seasoned season (c ∷ cs)
    go true t h later = record { place = 0; within = omega arith; season_is = eqb-true c.season season t }
    go false t h later =
        let m = later h in
        record { place = suc m.place; within = omega (arith, m.within); season_is = m.season_is }

season_none : (seasons : ℕ) (cs : List Case) → missing seasons cs ≡ 0 → (i : ℕ) → 1 ≤ i → i ≤ 4 → without i seasons cs ≡ 0
unfolding missing
season_none seasons cs e zero l h = absurd (omega arith)
season_none seasons cs e (suc zero) l h = omega arith
season_none seasons cs e (suc (suc zero)) l h = omega arith
season_none seasons cs e (suc (suc (suc zero))) l h = omega arith
season_none seasons cs e (suc (suc (suc (suc zero)))) l h = omega arith
season_none seasons cs e (suc (suc (suc (suc (suc i))))) l h = absurd (omega arith)

pub season_has_line : (seasons : ℕ) (cs : List Case) → missing seasons cs ≡ 0 → (i : ℕ) → 1 ≤ i → i ≤ 4 → licensed i seasons ≡ true
    → has_line i cs ≡ true
unfolding without
season_has_line seasons cs e i l h t = go (has_line i cs) refl
  where
    counted : one (licensed i seasons && not (has_line i cs)) ≡ 0
    counted = season_none seasons cs e i l h

    go : (b : Bool) → has_line i cs ≡ b → b ≡ true
    go true q = refl
    go false q =
        let none : true ≡ false = (rw (t, q) at (none_counted (licensed i seasons && not (has_line i cs)) counted)) in
        clash cc

-- ---- every line answered safe

pub every_safe_at : (f : ℕ) (cs : List Case) → every_safe f cs ≡ true → (k : ℕ) → k < length cs
    → is_safe (with_fault f (get_or cs k (case_of []))) ≡ true
unfolding every_safe
every_safe_at f [] e k h = absurd (omega arith)
every_safe_at f (c ∷ cs) e zero h = left (is_safe (with_fault f c)) (every_safe f cs) e
every_safe_at f (c ∷ cs) e (suc k) h = every_safe_at f cs (right (is_safe (with_fault f c)) (every_safe f cs) e) k (omega arith)

pub at_every_safe : (f : ℕ) (cs : List Case) → ((k : ℕ) → k < length cs → is_safe (with_fault f (get_or cs k (case_of []))) ≡ true)
    → every_safe f cs ≡ true
unfolding every_safe
at_every_safe f [] h = refl
at_every_safe f (c ∷ cs) h = rw (h 0 (omega arith)) (at_every_safe f cs (λ k l. h (suc k) (omega arith)))
