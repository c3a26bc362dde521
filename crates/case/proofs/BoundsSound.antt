-- A case within its bounds is one in which the checks of a record find no fault: the converse of `record-bounds`.
use Prim.Native.Nat.{ℕ, zero, suc, ◌≤◌}
use mathlib.Core.{Path.{◌≡◌, refl, ◌∙◌}, Bool.{true, ◌&&◌, ◌||◌}, Logic.{◌⊎◌, inl, inr}}
use native.Mathlib.Omega.{arith}
use lib.Dec.{T, leb, eqb, le→leb, eqb-suc-zero}
use borrow.Author.Tests.{eq-eqb}
use mir.Facts.{yes_and}
use Rattle.case.specs.{declared.{Case.{Case}}, Columns.{columns, in_range}, Case.{values}}
use Rattle.case.specs.Check.{out_of_range, agree, disagreement, finding, case_finding, own_places, record_finding, judged_by, record_judged}
use Rattle.case.specs.Bounds.{Between, Bare, Layered, Rodless, Rodded, Bounds}
use Rattle.case.specs.declared.Finding.TheVariants as found
use Rattle.case.proofs.{Tests.{passed, or_right, ◌then◌}, Ranges.{InRange, in_range_at}, RangeNumbers.{in_ranges}}
use Rattle.case.proofs.Agreement.{disagreement_is}
use Rattle.std.specs.Prelude.{Ok}

-- ---- the three kinds of range

within : {a x b : ℕ} → Between a x b → T (leb a x && leb x b)
within {a} {x} {b} h = yes_and (leb a x) (leb x b) (le→leb a x h.low) (le→leb x b h.high)

at_most : (x b : ℕ) → x ≤ b → T (leb 0 x && leb x b)
at_most x b h = yes_and (leb 0 x) (leb x b) (le→leb 0 x (omega arith)) (le→leb x b h)

zero_passes : (a b x : ℕ) → x ≡ 0 → T (eqb x 0 || leb a x && leb x b)
zero_passes a b x e = rw e tt

within_passes : {a x b : ℕ} → Between a x b → T (eqb x 0 || leb a x && leb x b)
within_passes {a} {x} {b} h = or_right (eqb x 0) (leb a x && leb x b) (within h)

either_passes : (a b x : ℕ) → (x ≡ a) ⊎ (x ≡ b) → T (eqb x a || eqb x b)
either_passes a b x (inl e) = rw (eq-eqb x a e) tt
either_passes a b x (inr e) = or_right (eqb x a) (eqb x b) (rw (eq-eqb x b e) tt)

-- ---- values that must agree

agree_zero : (a b : ℕ) → a ≡ 0 → b ≡ 0 → agree a b ≡ true
unfolding agree
agree_zero a b e f = rw (e, f)

agree_some : (a b : ℕ) → 1 ≤ a → 1 ≤ b → agree a b ≡ true
unfolding agree
agree_some zero b h k = absurd (omega arith)
agree_some (suc a) zero h k = absurd (omega arith)
agree_some (suc a) (suc b) h k = rw (eqb-suc-zero a, eqb-suc-zero b)

-- what a surface and rods within their bounds leave of the tests
record SurfaceTests (c : Case) : Type 0 where
  layer : T (eqb c.layer 0 || leb 100 c.layer && leb c.layer 10000)
  thick : T (eqb c.thick 0 || leb 20 c.thick && leb c.thick 300)
  agrees : agree c.layer c.thick ≡ true

surface_tests : {c : Case} → Bare c ⊎ Layered c → SurfaceTests c
surface_tests {c} (inl b) =
    record {
      layer = zero_passes 100 10000 _ b.layer;
      thick = zero_passes 20 300 _ b.thick;
      agrees = agree_zero _ _ b.layer
          b.thick;
    }
surface_tests {c} (inr l) =
    record {
      layer = within_passes l.layer;
      thick = within_passes l.thick;
      agrees = agree_some _ _ (omega (arith, l.layer.low)) (omega (arith, l.thick.low));
    }

record RodTests (c : Case) : Type 0 where
  rods : T (leb 0 c.rods && leb c.rods 200)
  rodlen : T (eqb c.rodlen 0 || leb 1000 c.rodlen && leb c.rodlen 10000)
  place : T (leb 0 c.place && leb c.place 2)
  agrees : agree c.rods c.rodlen && agree c.rods c.place ≡ true

rod_tests : {c : Case} → Rodless c ⊎ Rodded c → RodTests c
rod_tests {c} (inl b) =
    record {
      rods = at_most c.rods 200 (omega (arith, b.rods));
      rodlen = zero_passes 1000 10000 _ b.rodlen;
      place = at_most c.place 2 (omega (arith, b.place));
      agrees = rw (agree_zero c.rods c.rodlen b.rods b.rodlen) (agree_zero _ _ b.rods b.place);
    }
rod_tests {c} (inr b) =
    record {
      rods = at_most c.rods 200 b.rods.high;
      rodlen = within_passes b.rodlen;
      place = at_most c.place 2 b.place.high;
      agrees =
          rw (agree_some c.rods c.rodlen b.rods.low (omega (arith, b.rodlen.low)))
          (agree_some _ _ b.rods.low b.place.low);
    }

-- ---- the law

module _ {c : Case} (b : Bounds c) where
  in_range_lem : InRange columns (values c)
  unfolding columns in_range
  in_range_lem =
      let surface = surface_tests b.surface in
      let rods = rod_tests b.rods in
      within b.station
      then within b.season
      then within b.soil
      then surface.layer
      then surface.thick
      then within b.shock
      then within b.clear
      then within b.wire
      then either_passes 50 70 _ b.body
      then within b.fault
      then within b.split
      then within b.xr
      then within b.across
      then within b.along
      then within b.space
      then within b.depth
      then within b.dia
      then rods.rods
      then rods.rodlen
      then rods.place
      then within b.metal
      then either_passes 50 60 _ b.hz
      then tt

  none_outside : out_of_range columns own_places (values c) ≡ 0
  unfolding columns
  none_outside = in_ranges own_places (record { each = λ k l. passed _ (in_range_at columns (values c) refl in_range_lem k) })

  none_disagrees : disagreement columns own_places (values c) ≡ found.Sound
  none_disagrees = disagreement_is own_places c ∙ rw ((surface_tests b.surface).agrees, (rod_tests b.rods).agrees)

  pub bounds_sound : record_judged c ≡ Ok tt
  unfolding record_judged record_finding case_finding finding judged_by
  bounds_sound = rw (none_outside, none_disagrees)
