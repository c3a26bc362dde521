-- A case with another fault current, split, shock time and body, under another key, is within its bounds where these are in their ranges.
use Prim.Native.Nat.{ℕ}
use mathlib.Core.{Path.{◌≡◌}, Logic.{◌⊎◌, inl, inr}}
use Rattle.case.specs.{declared.Case.{Case}, Key.{under_key}, Eased.{eased}, Bounds.{Between, Bare, Layered, Rodless, Rodded, Bounds}}

module _ (c : Case) (station season fault split shock body : ℕ) where
  abbrev other : Case
  other = under_key station season (eased fault split shock body c)

  surface : Bare c ⊎ Layered c → Bare other ⊎ Layered other
  surface (inl b) = inl (record { layer = b.layer; thick = b.thick })
  surface (inr l) = inr (record { layer = l.layer; thick = l.thick })

  rodded : Rodless c ⊎ Rodded c → Rodless other ⊎ Rodded other
  rodded (inl z) = inl (record { rods = z.rods; rodlen = z.rodlen; place = z.place })
  rodded (inr l) = inr (record { rods = l.rods; rodlen = l.rodlen; place = l.place })

  pub eased_bounds : Bounds c → Between 1 station 65535 → Between 1 season 4 → Between 100 fault 80000 → Between 1 split 1000
      → Between 9 shock 3000 → (body ≡ 50) ⊎ (body ≡ 70) → Bounds other
  eased_bounds b k s f p t w =
      record {
        station = k;
        season = s;
        soil = b.soil;
        surface = surface b.surface;
        shock = t;
        clear = b.clear;
        wire = b.wire;
        body = w;
        fault = f;
        split = p;
        xr = b.xr;
        across = b.across;
        along = b.along;
        space = b.space;
        depth = b.depth;
        dia = b.dia;
        rods = rodded b.rods;
        metal = b.metal;
        hz = b.hz;
      }
