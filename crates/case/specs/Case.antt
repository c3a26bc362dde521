-- A case and its values in the order of the table of names (§1.2).
use Rattle.std.specs.Prelude.{ℕ, List, [], ◌∷◌, get_or}
use Rattle.case.specs.declared.Case.{Case}

abbrev pub values : Case → List ℕ
values c =
    c.station ∷ c.season ∷ c.soil ∷ c.layer ∷ c.thick ∷ c.shock ∷ c.clear ∷ c.wire
    ∷ c.body ∷ c.fault ∷ c.split ∷ c.xr ∷ c.across ∷ c.along ∷ c.space
    ∷ c.depth ∷ c.dia ∷ c.rods ∷ c.rodlen ∷ c.place ∷ c.metal ∷ c.hz
    ∷ []

abbrev pub case_of : List ℕ → Case
case_of v =
    record {
      station = get_or v 0 0;
      season = get_or v 1 0;
      soil = get_or v 2 0;
      layer = get_or v 3 0;
      thick = get_or v 4 0;
      shock = get_or v 5 0;
      clear = get_or v 6 0;
      wire = get_or v 7 0;
      body = get_or v 8 0;
      fault = get_or v 9 0;
      split = get_or v 10 0;
      xr = get_or v 11 0;
      across = get_or v 12 0;
      along = get_or v 13 0;
      space = get_or v 14 0;
      depth = get_or v 15 0;
      dia = get_or v 16 0;
      rods = get_or v 17 0;
      rodlen = get_or v 18 0;
      place = get_or v 19 0;
      metal = get_or v 20 0;
      hz = get_or v 21 0;
    }
