-- §4.10: yards computed by hand, as one list, and what is right of each: the starred yards, the sample yard (§3.3), and the rectangle of
-- IEEE Std 80-2013, B.3. "Document 01's cases of factor, current, size and the verdict sheet are worked anew at hz 60, with X/R 10 where
-- none is named." proofs/Yards.antt has the claim.
use Rattle.std.specs.Prelude.{ℕ}
use mathlib.Core.{Path.{◌≡◌}, List.{List, [], ◌∷◌}}
use Rattle.std.specs.Prelude.{nat_abs}
use Rattle.interval.specs.{declared.Interval.{Interval}, Operations.{natural}}
use Rattle.exact.specs.{Fraction.{Fraction, ◌≈f◌, whole, ◌÷f◌}, Exact.{Exact, Holds}, Reported.{Scale, reported, Reports}}
use Rattle.case.specs.declared.Case.{Case}
use Rattle.formulas.specs.{Lengths.{n}, Decrement.{Df}, Current.{IG}, Size.{size}, Tolerable.{tolerable_touch, tolerable_step}}
use Rattle.formulas.specs.{Mesh.{G, mesh}, Step.{step}, Resistance.{resistance}}
use Rattle.formulas.specs.Width.{m_v, μΩ, μA, billionths, factor_width, current_width}

-- a yard of bare soil without rods: what §4.10 does not name is as in the sample, at 60 Hz
abbrev pub yard : (soil body ms fault split xr metal : ℕ) → Case
yard soil body ms fault split xr metal =
    record {
      station = 7;
      season = 1;
      soil = soil;
      layer = 0;
      thick = 0;
      shock = ms;
      clear = ms;
      wire = ms;
      body = body;
      fault = fault;
      split = split;
      xr = xr;
      across = 11;
      along = 11;
      space = 7000;
      depth = 500;
      dia = 100;
      rods = 0;
      rodlen = 0;
      place = 0;
      metal = metal;
      hz = 60;
    }

-- a line of the sample sheet, but for the season, the soil, the counts of conductors and the rods
abbrev pub grid : (season soil across along rods rodlen place : ℕ) → Case
grid season soil across along rods rodlen place =
    record {
      station = 7;
      season = season;
      soil = soil;
      layer = 2500;
      thick = 102;
      shock = 500;
      clear = 500;
      wire = 500;
      body = 70;
      fault = 3180;
      split = 600;
      xr = 10;
      across = across;
      along = along;
      space = 7000;
      depth = 500;
      dia = 100;
      rods = rods;
      rodlen = rodlen;
      place = place;
      metal = 1;
      hz = 60;
    }

-- its two lines: dry soil and wet soil
abbrev pub sample : Case
sample = grid 1 400 11 11 0 0 0

abbrev pub wet : Case
wet = grid 2 100 11 11 0 0 0

-- IEEE Std 80-2013, B.3: 63 m by 84 m, 38 rods of 10 m along the perimeter; and the same grid without rods
abbrev pub rectangle : Case
rectangle = grid 1 400 10 13 38 10000 1

abbrev pub rodless : Case
rodless = grid 1 400 10 13 0 0 0

-- a yard and what is right of it: tolerable touch and step in mV, their ends in mV, kcmil, the ends of Df in billionths, those of the
-- current in microamperes, G, those of n in billionths, of the mesh and of the step voltage in mV, and of the resistance in micro-ohms
pub data Worked : Type 0 where
  voltages : Case → ℕ → ℕ → Worked
  tolerable : Case → (touch touch' step step' : ℕ) → Worked
  conductor : Case → ℕ → Worked
  decrement : Case → ℕ → ℕ → Worked
  current : Case → ℕ → ℕ → Worked
  argument : Case → Fraction → Worked
  conductors : Case → ℕ → ℕ → Worked
  mesh_voltage : Case → ℕ → ℕ → Worked
  step_voltage : Case → ℕ → ℕ → Worked
  grid_resistance : Case → ℕ → ℕ → Worked

unfoldable pub yards : List Worked
yards =
    voltages (yard 100 50 1000 3180 600 10 1) 133400 185600
    ∷ voltages (yard 100 50 250 3180 600 10 1) 266800 371200
    ∷ voltages (yard 100 70 1000 3180 600 10 1) 180550 251200
    ∷ conductor (yard 400 70 3000 20000 600 10 1) 244
    ∷ conductor (yard 400 70 3000 20000 600 10 4) 364
    ∷ conductor (yard 400 70 3000 20000 600 10 8) 640
    ∷ conductor (yard 400 70 1000 1000 600 10 1) 8
    ∷ conductor (yard 400 70 1000 1001 600 10 1) 8
    ∷ conductor (yard 400 70 1000 986 600 10 1) 7
    ∷ conductor (yard 400 70 1000 987 600 10 1) 8
    ∷ conductor (yard 400 70 1000 1000 600 10 5) 13
    -- pairs that report the factors of these sizes
    ∷ decrement (yard 400 70 3000 20000 600 10 1) 1004411240 1004411242
    ∷ decrement (yard 400 70 1000 1000 600 10 1) 1013176106 1013176108
    ∷ decrement (yard 400 70 99 3180 600 11 1) 1137716322 1137716324
    ∷ decrement (yard 400 70 100 3180 600 11 1) 1136431379 1136431382
    ∷ decrement (yard 400 70 499 3180 600 40 1) 1101187707 1101187709
    ∷ decrement (yard 400 70 500 3180 600 40 1) 1100994761 1100994763
    ∷ current (yard 400 70 500 3180 600 10 1) 1957957253 1957957256
    ∷ argument (yard 400 70 500 3180 600 10 1) (whole 5000 ÷f whole 7)
    -- "Season 1 has mesh near 1001.6 V against 840.5 V", now 1027.8 V: Df is 1.026 where it was 1.000
    ∷ tolerable sample 840547 840548 2696097 2696098
    ∷ mesh_voltage sample 1027839 1027841
    ∷ step_voltage sample 625691 625692
    ∷ grid_resistance sample 2775693 2775694
    ∷ tolerable wet 809961 809962 2573753 2573754
    ∷ mesh_voltage wet 256959 256960
    ∷ step_voltage wet 156422 156423
    -- the guide prints n 11.35, of na and nb rounded; a mesh voltage of 595.8 V, of Km rounded to 0.77 and of 1908 A, the current without
    -- Df; 2.62 ohms
    ∷ conductors rectangle 11344040332 11344040333
    ∷ mesh_voltage rectangle 609155 609156
    ∷ step_voltage rectangle 471465 471466
    ∷ grid_resistance rectangle 2618545 2618546
    -- without rods Kii is (2n) to the power −2/n
    ∷ mesh_voltage rodless 970843 970844
    ∷ step_voltage rodless 593854 593855
    ∷ grid_resistance rodless 2663480 2663481
    ∷ []

-- the pair with these ends holds the exact value
abbrev pub HeldBy : Exact → Scale → ℕ → ℕ → Type 0
HeldBy x unit lower upper = Holds (reported unit (natural lower upper)) x

-- "a starred voltage means that the pair with both ends there holds the exact value". A size is right if it is the size by the upper end of
-- every pair that reports the factor. A factor or current is right if the pair with those ends holds the exact value and meets its width,
-- any other number if the pair holds the exact value.
abbrev pub Right : Worked → Type 0
Right (voltages c touch step) = HeldBy (tolerable_touch c) m_v touch touch × HeldBy (tolerable_step c) m_v step step
Right (tolerable c touch touch' step step') = HeldBy (tolerable_touch c) m_v touch touch' × HeldBy (tolerable_step c) m_v step step'
Right (conductor c kcmil) = (pair : Interval) → Reports (Df c) billionths factor_width pair → size c (nat_abs pair.upper) ≡ kcmil
Right (decrement c lower upper) = Reports (Df c) billionths factor_width (natural lower upper)
Right (current c lower upper) = Reports (IG c) μA current_width (natural lower upper)
Right (argument c g) = G c ≈f g
Right (conductors c lower upper) = HeldBy (n c) billionths lower upper
Right (mesh_voltage c lower upper) = HeldBy (mesh c) m_v lower upper
Right (step_voltage c lower upper) = HeldBy (step c) m_v lower upper
Right (grid_resistance c lower upper) = HeldBy (resistance c) μΩ lower upper
