-- Every yard tried is a sound case where the rest of the case is, so no yard is refused.
use Prim.Native.Nat.{ℕ, zero, suc, ◌+◌, ◌*◌, ◌-◌, ◌%◌, ◌≤◌}
use mathlib.Core.{Path.{◌≡◌, refl}, Bool.{Bool, true, false, ◌&&◌}, Logic.{◌⊎◌, inl, inr}, List.{List, ◌++◌}}
use native.Mathlib.Omega.{arith}
use lib.Dec.{leb, eqb}
use borrow.Author.Tests.{leb-true, ne_eqb}
use Rattle.text.{specs.Text.{same}, proofs.Clash.{clash}}
use Rattle.whole.specs.Every.{Every}
use Rattle.case.specs.{declared.Case.{Case}, Columns.{columns, in_range, name_index}, Parts.{range_at}}
use Rattle.case.specs.Bounds.{Between, Bare, Layered, Rodless, Rodded, Bounds}
use Rattle.yards.specs.Yards.{spacing, space_range, fits, yard, yards_of, yards_from, yards}
use Rattle.yards.proofs.Trying.{lines_next, lines_skipped, lines_end, rods_next, rods_end}

-- what the tests of a count say of its spacing
fits_spacing : (side lines : ℕ) → fits side lines ≡ true → Between 2500 (spacing side lines) 30000
unfolding fits space_range range_at columns in_range name_index same
fits_spacing side lines f = go (eqb (side % (lines - 1)) 0) (leb 2500 (spacing side lines)) refl (leb (spacing side lines) 30000) refl f
  where
    go : (a b : Bool) → leb 2500 (spacing side lines) ≡ b → (d : Bool) → leb (spacing side lines) 30000 ≡ d → a && (b && d) ≡ true
        → Between 2500 (spacing side lines) 30000
    go true true p true q e = record { low = leb-true _ _ p; high = leb-true _ _ q }
    go true true p false q e = clash cc
    go true false p d q e = clash cc
    go false b p d q e = clash cc

module _ (c : Case) (side lines rods : ℕ) where
  surface : Bare (yard c 2500 2 4) ⊎ Layered (yard c 2500 2 4) → Bare (yard c side lines rods) ⊎ Layered (yard c side lines rods)
  unfolding yard
  surface (inl b) = inl (record { layer = b.layer; thick = b.thick })
  surface (inr l) = inr (record { layer = l.layer; thick = l.thick })

  rodded : Rodless (yard c 2500 2 4) ⊎ Rodded (yard c 2500 2 4) → rods ≤ 40 → (n : ℕ) → rods ≡ n
      → Rodless (yard c side lines rods) ⊎ Rodded (yard c side lines rods)
  unfolding yard
  rodded (inl z) h n e = absurd (omega (arith, z.rods))
  rodded (inr l) h zero e = inl (rw e (record { rods = refl; rodlen = refl; place = refl }))
  rodded (inr l) h (suc n) e =
      inr (rw (ne_eqb rods 0 (λ z. omega arith)) (record {
        rods = record { low = omega arith; high = omega arith };
        rodlen = l.rodlen;
        place = l.place;
      }))

  pub yard_bounds : Bounds (yard c 2500 2 4) → 2 ≤ lines → lines ≤ 25 → fits side lines ≡ true → rods ≤ 40 → Bounds (yard c side lines rods)
  unfolding yard
  yard_bounds b l m f h =
      record {
        station = b.station;
        season = b.season;
        soil = b.soil;
        surface = surface b.surface;
        shock = b.shock;
        clear = b.clear;
        wire = b.wire;
        body = b.body;
        fault = b.fault;
        split = b.split;
        xr = b.xr;
        across = record { low = l; high = m };
        along = record { low = l; high = m };
        space = fits_spacing side lines f;
        depth = b.depth;
        dia = b.dia;
        rods = rodded b.rods h rods refl;
        metal = b.metal;
        hz = b.hz;
      }

-- ---- every yard of the list

-- a sound case, and the yard of its own counts
pub record Tried (c : Case) (side : ℕ) (y : Case) : Type 0 where
  pub bounds : Bounds y
  pub is : y ≡ yard c side y.across y.rods

yard_tried : (c : Case) (side lines rods : ℕ) → Bounds (yard c side lines rods) → Tried c side (yard c side lines rods)
unfolding yard
yard_tried c side lines rods b = record { bounds = b; is = refl }

module _ (c : Case) (side : ℕ) (b : Bounds (yard c 2500 2 4)) where
  rods_sound : (n k lines : ℕ) (more : List Case) → k + n ≡ 11 → 2 ≤ lines → lines ≤ 25 → fits side lines ≡ true → Every (Tried c side) more
      → Every (Tried c side) (yards_of c side lines k ++ more)
  rods_sound zero k lines more e l m f s = rw (rods_end c side lines k more (omega arith)) s
  rods_sound (suc n) k lines more e l m f s =
      rw (rods_next c side lines k more (omega arith) f) (
        yard_tried c side lines (4 * k) (yard_bounds c side lines (4 * k) b l m f (omega arith)),
        rods_sound n (k + 1) lines more
            (omega arith) l m f s,
      )

  lines_sound : (n lines : ℕ) → lines + n ≡ 26 → 2 ≤ lines → Every (Tried c side) (yards_from c side lines)
  lines_sound zero lines e l = rw (lines_end c side lines (omega arith)) tt
  lines_sound (suc n) lines e l = go (fits side lines) refl (lines_sound n (lines + 1) (omega arith) (omega arith))
    where
      go : (d : Bool) → fits side lines ≡ d → Every (Tried c side) (yards_from c side (lines + 1))
          → Every (Tried c side) (yards_from c side lines)
      go true f s = rw (lines_next c side lines (omega arith)) (rods_sound 11 0 lines _ (omega arith) l (omega arith) f s)
      go false f s = rw (lines_skipped c side lines (omega arith) f) s

  pub yards_sound : Every (Tried c side) (yards c side)
  unfolding yards
  yards_sound = lines_sound 24 2 (omega arith) (omega arith)
