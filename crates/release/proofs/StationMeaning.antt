-- A station by its lines: what five counts of 0 say of every line, and what the fault current reported says.
use Prim.Native.Nat.{ℕ, ◌≤◌, ◌<◌}
use mathlib.Core.{Path.{◌≡◌, refl, sym, ◌∙◌}, Bool.{Bool, true, false, cond}, Logic.{◌⊎◌, inl, inr}, List.{List, []}}
use native.Mathlib.Omega.{arith}
use lib.{Dec.{eqb}, ListN.{length, get_or}}
use borrow.Author.Tests.{eqb-true, ltb-false, not-false}
use Rattle.text.proofs.Clash.{clash}
use Rattle.case.specs.{declared.Case.{Case}, Case.{case_of}, Bounds.{Bounds}, Fault.{with_fault}}
use Rattle.decision.specs.{declared.Verdict.{TheVariants.{Safe, Unsafe, Undecided}, Verdict}, Verdict.{verdict_number}}
use Rattle.row.{specs.Ends.{row_of}, proofs.Right.{right_row}}
use Rattle.yards.specs.Yards.{is_safe}
use Rattle.headroom.specs.Headroom.{InRange}
use Rattle.sheet.specs.Answer.{cases}
use Rattle.tally.specs.Lines.{lines_of, count_of, missing, answered_unsafe, answered_undecided, same_yard, other_yard, too_small, first_line}
use Rattle.tally.specs.{Fault.{every_safe, common_fault, station_fault}, Tally.{EveryBounds}}
use Rattle.tally.proofs.Faults.{left, right, test_safe, safe_test, UpTo, common_up_to}
use Rattle.tally.proofs.Members.{Member, line_member, Found, member_line, every_at, lines_bounds, count_none, Seasoned, has_line_lem}
use Rattle.tally.proofs.Members.{season_has_line, every_safe_at, at_every_safe}
use Rattle.release.specs.Meaning.{line_at, LineOf, SeasonLine, OneYard, ReleasedStation, SafeThroughout, FaultReported}

-- ---- the tests of a line

answered_safe : (v : Verdict) → eqb (verdict_number v) 2 ≡ false → eqb (verdict_number v) 3 ≡ false → v ≡ Safe
unfolding verdict_number
answered_safe Safe u d = refl
answered_safe Unsafe u d = clash cc
answered_safe Undecided u d = clash cc

same_first : (yard c : Case) → other_yard yard c ≡ false → same_yard yard c ≡ true
unfolding other_yard
same_first yard c e = not-false (same_yard yard c) e

-- the nine columns
yard_is : (c d : Case) → same_yard c d ≡ true → OneYard c d
unfolding same_yard
yard_is c d e =
    let a = right (eqb c.across d.across) _ e in
    let b = right (eqb c.along d.along) _ a in
    let f = right (eqb c.space d.space) _ b in
    let g = right (eqb c.depth d.depth) _ f in
    let h = right (eqb c.dia d.dia) _ g in
    let i = right (eqb c.rods d.rods) _ h in
    let j = right (eqb c.rodlen d.rodlen) _ i in
    record {
      across = eqb-true c.across d.across (left _ _ e);
      along = eqb-true c.along d.along (left _ _ a);
      space = eqb-true c.space d.space (left _ _ b);
      depth = eqb-true c.depth d.depth (left _ _ f);
      dia = eqb-true c.dia d.dia (left _ _ g);
      rods = eqb-true c.rods d.rods (left _ _ h);
      rodlen = eqb-true c.rodlen d.rodlen (left _ _ i);
      place = eqb-true c.place d.place (left _ _ j);
      metal = eqb-true c.metal d.metal (right (eqb c.place d.place) _ j);
    }

-- two lines with the yard of a third
both_yard : {a c d : Case} → OneYard a c → OneYard a d → OneYard c d
both_yard p q =
    record {
      across = sym p.across ∙ q.across;
      along = sym p.along ∙ q.along;
      space = sym p.space ∙ q.space;
      depth = sym p.depth ∙ q.depth;
      dia = sym p.dia ∙ q.dia;
      rods = sym p.rods ∙ q.rods;
      rodlen = sym p.rodlen ∙ q.rodlen;
      place = sym p.place ∙ q.place;
      metal = sym p.metal ∙ q.metal;
    }

-- ---- a station and its lines

module _ (s : List ℕ) (station : ℕ) (bounded : EveryBounds (cases s)) where
  abbrev lines : List Case
  lines = lines_of station (cases s)

  -- line j of the sheet among the lines of the station
  member : (j : ℕ) → LineOf s station j → Member (line_at s j) lines
  member j l = line_member station (cases s) j l.within l.own

  -- what no line of the station passes, line j does not pass
  not_passed : (test : Case → Bool) → count_of test lines ≡ 0 → (j : ℕ) → LineOf s station j → test (line_at s j) ≡ false
  not_passed test e j l = let m = member j l in rw (← m.is) (count_none test lines e m.place m.within)

  bounds_at : (j : ℕ) → LineOf s station j → Bounds (line_at s j)
  bounds_at j l = every_at (cases s) bounded j l.within

  -- a line of the station for a season that has one
  season_line : (i : ℕ) → Seasoned i lines → SeasonLine s station i
  season_line i m =
      let f = member_line station (cases s) (get_or lines m.place (case_of [])) m.place m.within refl in
      record {
        line = f.member.place;
        own = record { within = f.member.within; own = rw f.member.is f.own };
        season_is = rw f.member.is m.season_is;
      }

  -- ---- nothing found

  module _ (seasons area : ℕ) (no_season : missing seasons lines ≡ 0) (no_unsafe : count_of answered_unsafe lines ≡ 0)
      (no_undecided : count_of answered_undecided lines ≡ 0) (no_other : count_of (other_yard (first_line lines)) lines ≡ 0)
      (no-small : count_of (too_small area) lines ≡ 0) where
    safe_at : (j : ℕ) → LineOf s station j → (row_of (line_at s j)).verdict ≡ Safe
    unfolding answered_unsafe answered_undecided
    safe_at j l =
        answered_safe (row_of (line_at s j)).verdict (not_passed answered_unsafe no_unsafe j l)
        (not_passed answered_undecided no_undecided j l)

    first_yard : (j : ℕ) → LineOf s station j → OneYard (first_line lines) (line_at s j)
    first_yard j l = yard_is (first_line lines) (line_at s j) (same_first _ _ (not_passed (other_yard (first_line lines)) no_other j l))

    pub station_released : ReleasedStation s station seasons area
    unfolding too_small
    station_released =
        record {
          every_season = λ i l h t. season_line i (has_line_lem i lines (season_has_line seasons lines no_season i l h t));
          one_yard = λ i j l m. both_yard (first_yard i l) (first_yard j m);
          mesh = λ j l. let r = right_row (bounds_at j l) in (r.safe_true (sym r.verdict ∙ safe_at j l)).0;
          step = λ j l. let r = right_row (bounds_at j l) in (r.safe_true (sym r.verdict ∙ safe_at j l)).1;
          wire = λ j l. ltb-false _ _ (not_passed (too_small area) no-small j l);
        }

  -- ---- the fault current

  throughout : (f : ℕ) → every_safe f lines ≡ true → SafeThroughout s station f
  throughout f e j l =
      let m = member j l in
      test_safe (line_at s j) f (rw m.is at (every_safe_at f lines e m.place m.within))

  every_line : (f : ℕ) → SafeThroughout s station f → every_safe f lines ≡ true
  every_line f h = at_every_safe f lines (λ k l. at k l (member_line station (cases s) (get_or lines k (case_of [])) k l refl))
    where
      at : (k : ℕ) → k < length lines → Found station (cases s) (get_or lines k (case_of []))
          → is_safe (with_fault f (get_or lines k (case_of []))) ≡ true
      at k l g =
          let own : LineOf s station g.member.place = record { within = g.member.within; own = rw g.member.is g.own } in
          rw g.member.is at (safe_test (line_at s g.member.place) f (h g.member.place own))

  some_line : (j : ℕ) → LineOf s station j → 0 < length lines
  some_line j l = let m = member j l in omega (arith, m.within)

  up_to : UpTo lines (common_fault lines)
  up_to = common_up_to lines (lines_bounds station (cases s) bounded)

  -- without a line 0, else the greatest of all lines
  pub fault_reported : FaultReported s station (station_fault lines)
  unfolding station_fault
  fault_reported = go (eqb (length lines) 0) refl
    where
      go : (t : Bool) → eqb (length lines) 0 ≡ t → FaultReported s station (cond t 0 (common_fault lines))
      go true e =
          let none : length lines ≡ 0 = eqb-true (length lines) 0 e in
          record {
            in_range_lem = λ l. absurd (omega arith);
            safe = λ f h l. absurd (omega (arith, h.low));
            greatest = λ f l h a. absurd (omega arith);
            none = λ z j f l h a. omega (arith, some_line j l);
          }
      go false e =
          record {
            in_range_lem = λ l. ranged l up_to.in_range_lem;
            safe = λ f h l. throughout f (up_to.safe f h l);
            greatest = λ f l h a. up_to.greatest f h (every_line f a);
            none = λ z j f l h a. omega (arith, h.low, up_to.greatest f h (every_line f a));
          }
        where
          ranged : 1 ≤ common_fault lines → (common_fault lines ≡ 0) ⊎ InRange (common_fault lines) → InRange (common_fault lines)
          ranged l (inl q) = absurd (omega arith)
          ranged l (inr r) = r
