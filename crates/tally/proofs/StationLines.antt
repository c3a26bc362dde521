-- The lines of a station among the stored values: the first of them, and what is counted of them from the last to the first.
use Prim.Native.Nat.{ℕ, suc, ◌+◌, ◌-◌, ◌*◌, ◌≤◌, ◌<◌}
use mathlib.Core.{Path.{◌≡◌, sym, ap, ◌∙◌}, Bool.{Bool, true, false, cond}, List.{List, [], ◌∷◌}}
use native.Mathlib.{Numerals.{add-one}, Omega.{arith}}
use lib.{Dec.{eqb}, ListN.{length, get_or, drop, drop_of_length-le}, Seq.{drop-cons}}
use borrow.Author.Tests.{eq-eqb, ne_eqb}
use Rattle.tables.{specs.Parts.{part_at}, proofs.Parts.{part_entry}}
use Rattle.case.specs.{declared.Case.{Case}, Case.{case_of}, Columns.{name_count}, Bounds.{Bounds}}
use Rattle.judgement.specs.Limits.{most_lines}
use Rattle.table_rows.{specs.Rows.{stored_cases}, proofs.StoredCases.{cases_count, stored_case}}
use Rattle.tally.specs.{declared.Tally.{Tally}, Lines.{lines_of, first_line}, Tally.{EveryBounds, tally_of, add_line, Small}}
use Rattle.tally.proofs.Counts.{tally_none, tally_step, tally_small}

-- the lines of a station from line i on
abbrev pub lines_from : List ℕ → ℕ → ℕ → ℕ → List Case
lines_from values n station i = lines_of station (drop i (stored_cases values n))

module _ (values : List ℕ) (n station : ℕ) where
  pub lines_end : lines_from values n station n ≡ []
  unfolding lines_of
  lines_end =
      let l : length (stored_cases values n) ≤ n = omega (arith, cases_count values n) in
      rw (drop_of_length-le (stored_cases values n) l)

  module _ (i : ℕ) (h : i < n) where
    abbrev here : Case
    here = case_of (part_at name_count values i)

    from_next : drop i (stored_cases values n) ≡ here ∷ drop (suc i) (stored_cases values n)
    from_next =
        let l : i < length (stored_cases values n) = omega (arith, cases_count values n) in
        drop-cons (stored_cases values n) i (case_of []) l ∙ ap (λ (c : Case). c ∷ drop (suc i) (stored_cases values n))
        (stored_case values n i h)

    station_is : here.station ≡ get_or values (name_count * i) 0
    station_is =
        let e : name_count * i + 0 ≡ name_count * i = omega arith in
        part_entry name_count i 0 values 0 (omega arith) ∙ ap (λ (k : ℕ). get_or values k 0) e

    pub lines_own : get_or values (name_count * i) 0 ≡ station → lines_from values n station i ≡ here ∷ lines_from values n station (suc i)
    unfolding lines_of
    lines_own e = rw (from_next, eq-eqb here.station station (station_is ∙ e))

    pub lines_other : (get_or values (name_count * i) 0 ≡ station → ⊥) → lines_from values n station i ≡ lines_from values n station (suc i)
    unfolding lines_of
    lines_other e = rw (from_next, ne_eqb here.station station (λ q. e (sym station_is ∙ q)))

-- a station has no more lines than the sheet
lines_few : (station : ℕ) (cs : List Case) → length (lines_of station cs) ≤ length cs
unfolding lines_of
lines_few station [] = omega arith
lines_few station (c ∷ cs) = go (eqb c.station station) (lines_few station cs)
  where
    go : (t : Bool) → length (lines_of station cs) ≤ length cs
        → length (cond t (c ∷ lines_of station cs) (lines_of station cs)) ≤ suc (length cs)
    go true h = omega arith
    go false h = omega arith

pub lines_most : (values : List ℕ) (n station : ℕ) → n ≤ most_lines → length (lines_of station (stored_cases values n)) ≤ most_lines
lines_most values n station h = omega (arith, lines_few station (stored_cases values n), cases_count values n)

-- ---- the first line

-- no line before line i is one of the station
pub record Before (values : List ℕ) (n station i : ℕ) : Type 0 where
  pub none : lines_from values n station i ≡ lines_of station (stored_cases values n)

pub before_more : {values : List ℕ} {n station i : ℕ} → Before values n station i → i < n → (get_or values (name_count * i) 0 ≡ station → ⊥)
    → Before values n station (i + 1)
before_more {values} {n} {station} {i} b h e = record { none = rw add-one (sym (lines_other values n station i h e) ∙ b.none) }

pub first_here : {values : List ℕ} {n station i : ℕ} → Before values n station i → i < n → get_or values (name_count * i) 0 ≡ station
    → case_of (part_at name_count values i) ≡ first_line (lines_of station (stored_cases values n))
first_here {values} {n} {station} {i} b h e = ap first_line (sym (lines_own values n station i h e) ∙ b.none)

pub first_none : {values : List ℕ} {n station : ℕ} → Before values n station n
    → case_of [] ≡ first_line (lines_of station (stored_cases values n))
first_none {values} {n} {station} b = ap first_line (sym (lines_end values n station) ∙ b.none)

-- ---- what is counted of them

pub record Counting (values : List ℕ) (n station : ℕ) (yard : Case) (area i : ℕ) (t : Tally) : Type 0 where
  pub within : i ≤ n
  pub few : i + length (lines_from values n station i) ≤ n
  pub bounded : EveryBounds (lines_from values n station i)
  pub is : t ≡ tally_of yard area (lines_from values n station i)

pub counting_start : (values : List ℕ) (n station : ℕ) (yard : Case) (area : ℕ)
    → Counting values n station yard area n
    (record {
      lines = 0;
      first = false;
      second = false;
      third = false;
      fourth = false;
      not_safe = 0;
      undecided = 0;
      other = 0;
      small = 0;
      fault = 80000;
    })
unfolding EveryBounds
counting_start values n station yard area =
    let e = lines_end values n station in
    record { within = omega arith; few = rw e (omega arith); bounded = rw e tt; is = rw e (sym (tally_none yard area)) }

module _ {values : List ℕ} {n station : ℕ} {yard : Case} {area i : ℕ} {t : Tally} (a : Counting values n station yard area i t) where
  pub counting_small : n ≤ most_lines → Small t
  counting_small h = rw a.is (tally_small yard area (lines_from values n station i) (omega (arith, a.few)))

  module _ (h : 0 < i) where
    next : suc (i - 1) ≡ i
    next = omega arith

    inside : i - 1 < n
    inside = omega (arith, a.within)

    pub counting_own : {c : Case} → Bounds c → get_or values (name_count * (i - 1)) 0 ≡ station → c ≡ case_of (part_at name_count values (i - 1))
        → Counting values n station yard area (i - 1) (add_line yard area c t)
    unfolding EveryBounds
    counting_own {c} b e q =
        let l : lines_from values n station (i - 1) ≡ c ∷ lines_from values n station i =
        lines_own values n station (i - 1) inside e ∙ rw (next, q) in
        record {
          within = omega (arith, a.within);
          few = rw l (omega (arith, a.few));
          bounded = rw l (b, a.bounded);
          is = rw (l, tally_step yard area (lines_from values n station i) b a.bounded, a.is);
        }

    pub counting_other : (get_or values (name_count * (i - 1)) 0 ≡ station → ⊥) → Counting values n station yard area (i - 1) t
    counting_other e =
        let l : lines_from values n station (i - 1) ≡ lines_from values n station i =
        lines_other values n station (i - 1) inside e ∙ rw next in
        record { within = omega (arith, a.within); few = rw l (omega (arith, a.few)); bounded = rw l a.bounded; is = rw l a.is }

pub counting_end : {values : List ℕ} {n station : ℕ} {yard : Case} {area i : ℕ} {t : Tally} → Counting values n station yard area i t
    → i ≤ 0 → t ≡ tally_of yard area (lines_of station (stored_cases values n))
counting_end {values} {n} {station} {yard} {area} {i} a h = let e : i ≡ 0 = omega arith in rw e at a.is
