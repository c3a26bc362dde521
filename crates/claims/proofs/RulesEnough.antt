-- A sheet of which every rule holds is one that breaks none; one that breaks a rule is refused by the first, and only then.
use Prim.Native.{Nat.{ℕ, zero, suc, ◌+◌, ◌≤◌, ◌<◌}, String.{String}}
use mathlib.Core.{Path.{◌≡◌, refl, sym, ap, ◌∙◌}, Bool.{Bool, true, false, cond}, Logic.{◌⊎◌, inl, inr, ◌↔◌}, List.{List, [], ◌∷◌}}
use native.Mathlib.{Decide.{ℕ_discrete}, Omega.{arith}}
use lib.{Dec.{eqb}, ListN.{length, get_or}}
use borrow.Author.Tests.{eqb-true}
use Rattle.text.{specs.{Text.{fields_of}, Value.{is_value, value_of}}, proofs.Clash.{clash}}
use Rattle.case.specs.{declared.{Case.{Case}}, Case.{values}, Columns.{columns, name_count_lem, in_range}}
use Rattle.case.specs.Check.{out_of_range, disagreement, finding, case_finding, count_from, own_places, record_finding, judged_by, record_judged}
use Rattle.case.specs.declared.Form.TheVariants.{Present}
use Rattle.case.{specs.{Parts.{range_at, form_of}, Bounds.{Bare, Layered, Rodless, Rodded, Bounds}}, proofs.Tests.{passed}}
use Rattle.case.proofs.{Ranges.{Some, in_range_lem, in_range_at}, Values.{values_of_case}, BoundsSound.{bounds_sound}}
use Rattle.case.specs.declared.Finding.TheVariants as found
use Rattle.header.specs.{Parts.{name_at}, Names.{field_at, StandsAt, WrongName, unknown, again, missing, None}}
use Rattle.header.proofs.{NamesStand.{names_stand, name_stands, wrong_name_lem}, HeaderAccepted.{header_accepted}}
use Rattle.judgement.specs.Wrong.{WrongValues, wrong_form_lem, too_few, too_many}
use Rattle.judgement.{specs.Sheet.{names, value_lines}, proofs.{Causes.{wrong_column}, ValueFields.{no_wrong_value}}}
use Rattle.claims.specs.{Words.{BreaksNone, Breaks, case_at}, Rules.{fields_at, Under, OwnLine, SameKey, RulesKept}}
use Rattle.claims.specs.Order.{WrongText, WrongCount, none, many, OutOfRange, LayerAgreesAt, RodsAgreeAt, Repeats, LineKept}
use Rattle.claims.specs.Order.{FirstBroken, Reached, line, value}
use Rattle.claims.proofs.{OwnLines.{columns_in, values_at, values_count, value_at, case_is}, OnePlace.{one_number}}
use Rattle.claims.proofs.FirstBroken.{known, first_broken, refused_by, accepted_by}
use Rattle.std.specs.Prelude.{Ok}

-- ---- every value of a case within its bounds is in its range

own_some : (first n : ℕ) → 1 ≤ first → Some (count_from first n)
unfolding count_from
own_some first zero h = tt
own_some first (suc n) h = (h, own_some (suc first) n (omega arith))

none_outside : (c : Case) → record_judged c ≡ Ok tt → out_of_range columns own_places (values c) ≡ 0
unfolding record_judged record_finding case_finding finding judged_by
none_outside c e = go (eqb (out_of_range columns own_places (values c)) 0) refl e
  where
    go : (b : Bool) → eqb (out_of_range columns own_places (values c)) 0 ≡ b
        → judged_by (cond b (disagreement columns own_places (values c)) (found.OutOfRange (out_of_range columns own_places (values c)))) ≡ Ok tt
        → out_of_range columns own_places (values c) ≡ 0
    go true q h = eqb-true _ 0 q
    go false q h = clash cc

in_its_range : {c : Case} → Bounds c → (k : ℕ) → in_range (range_at columns k) (get_or (values c) k 0) ≡ true
unfolding own_places columns count_from
in_its_range {c} b k =
    let r = in_range_lem columns own_places (values c) refl (own_some 1 22 (omega arith)) (none_outside c (bounds_sound b)) in
    passed _ (in_range_at columns (values c) refl r k)

-- ---- a sheet that keeps every rule

not_both : {b : Bool} → b ≡ true → b ≡ false → ⊥
not_both p q = clash cc

module _ {s : List ℕ} {n : ℕ} (kept : RulesKept s n) where
  no_wrong_name : None (WrongName columns (names s))
  no_wrong_name column (unknown a b u) = u (kept.names_known column a (omega (arith, kept.name_count_lem)))
  no_wrong_name column (again b left l t) =
      let some = t.first in
      let m : column ≤ 22 = omega (arith, kept.name_count_lem) in
      let k = kept.names_known column (omega arith) m in
      let o = kept.names_once k.index (omega (arith, k.within, name_count_lem)) in
      let p = o.only column (record { first = omega arith; last = b; is = k.is }) in
      let q = o.only left (record { first = t.first; last = t.last; is = t.is ∙ k.is }) in
      omega arith
  no_wrong_name column (missing h e) = omega (arith, kept.name_count_lem, name_count_lem)

  names_right : wrong_column columns s ≡ 0
  names_right = go (ℕ_discrete (wrong_column columns s) 0)
    where
      go : Dec (wrong_column columns s ≡ 0) → wrong_column columns s ≡ 0
      go (yes e) = e
      go (no e) = absurd (no_wrong_name _ (wrong_name_lem columns (names s) e).here)

  -- the value under a name is that of the case
  value_under : (i k column : ℕ) → i < length (value_lines s) → k < 22 → StandsAt (names s) (name_at columns k) column
      → value_of (field_at (fields_at s i) column) ≡ get_or (values (case_at s i)) k 0
  value_under i k column h l t =
      let o = kept.names_once k l in
      let m : k < length columns = omega (arith, name_count_lem) in
      let e : column ≡ get_or (columns_in columns s) k 0 =
      o.only column t ∙ sym (o.only _ (name_stands (names_stand columns (names s) names_right) k m)) in
      let c = (header_accepted columns (names s) names_right).count in
      let v : values (case_at s i) ≡ values_at s i = ap values (case_is s i h) ∙ values_of_case (values_at s i)
      (values_count columns s names_right i ∙ name_count_lem) in
      rw e (sym (value_at (columns_in columns s) (fields_at s i) k (omega (arith, c))) ∙ sym (ap (λ (l : List ℕ). get_or l k 0) v))

  -- value line i breaks none
  line_kept : (i : ℕ) → i < n → LineKept columns s i
  line_kept i h =
      let o = kept.own_line i h in
      let b = kept.bounds i h in
      record {
        agrees = record {
          in_range_lem = record { values = rw name_count_lem (no_wrong_value o.values); ranges = λ c r. ranges o b r };
          layer = layer o b.surface;
          rods = rods o b.rods;
        };
        new = λ r. kept.keys_once r.line i r.earlier h (same r);
      }
    where
      ranges : OwnLine s i (case_at s i) → Bounds (case_at s i) → {c : ℕ} → OutOfRange columns s i c → ⊥
      ranges o b r =
          let v = value_under i r.index _ o.within (omega (arith, r.known, name_count_lem)) r.named in
          not_both (in_its_range b r.index) (rw v at r.outside)

      not_zero : {name : String} {v : ℕ} → Under s i name v → 1 ≤ v → ¬ Under s i name 0
      not_zero u h z = omega (arith, one_number no_wrong_name u z)

      layer : OwnLine s i (case_at s i) → Bare (case_at s i) ⊎ Layered (case_at s i) → LayerAgreesAt s i
      layer o (inl b) = inl (rw b.layer at o.layer, rw b.thick at o.thick)
      layer o (inr b) =
          inr (not_zero o.layer (omega (arith, b.layer.low)), not_zero o.thick (omega (arith, b.thick.low)))

      rods : OwnLine s i (case_at s i) → Rodless (case_at s i) ⊎ Rodded (case_at s i) → RodsAgreeAt s i
      rods o (inl b) = inl (rw b.rods at o.rods, rw b.rodlen at o.rodlen, rw b.place at o.place)
      rods o (inr b) =
          inr
          (not_zero o.rods b.rods.low, not_zero o.rodlen (omega (arith, b.rodlen.low)), not_zero o.place b.place.low)

      same : (r : Repeats s i) → SameKey (case_at s i) (case_at s r.line)
      same r =
          let o = kept.own_line i h in
          let e = kept.own_line r.line (omega (arith, r.earlier)) in
          record {
            station = one_number no_wrong_name o.station r.here.0 ∙ one_number no_wrong_name r.there.0 e.station;
            season = one_number no_wrong_name o.season r.here.1 ∙ one_number no_wrong_name r.there.1 e.season;
          }

  text_right : ¬ WrongText s
  text_right (inl e) = omega (arith, kept.some_bytes)
  text_right (inr (inl h)) = omega (arith, kept.few_bytes)
  text_right (inr (inr h)) = h kept.last_byte

  count_right : None (WrongCount s)
  count_right place (none e) = omega (arith, kept.count, kept.some_lines)
  count_right place (many h) = omega (arith, kept.count, kept.few_lines)

  pub breaks_none : BreaksNone s n
  unfolding form_of
  breaks_none =
      accepted_by columns (known Present) s
      (record {
        count = kept.count;
        reached = record { text = text_right; name = no_wrong_name; count = count_right; lines = line_kept };
      })

-- ---- a sheet that breaks one

pub breaks_first : {s : List ℕ} {number line column : ℕ} → Breaks s number line column ↔ FirstBroken columns s number line column
unfolding form_of
breaks_first {s} = (first_broken columns (known Present) s, refused_by columns (known Present) s)

pub empty_line : {s : List ℕ} {i : ℕ} → Reached columns s i → i < length (value_lines s) → get_or (value_lines s) i [] ≡ []
    → Breaks s 3 (i + 2) 1
unfolding fields_of is_value
empty_line {s} {i} r h e = breaks_first.1 (line i h r (value (rw e (record { here = here; first = first }))))
  where
    here : WrongValues (length columns) ([] ∷ []) 1
    here = wrong_form_lem (omega arith) (omega (arith, name_count_lem)) (omega arith) refl

    first : (left : ℕ) → left < 1 → ¬ WrongValues (length columns) ([] ∷ []) left
    first left l (wrong_form_lem a b c d) = omega arith
    first left l (too_few a b) = omega arith
    first left l (too_many a b) = omega arith
