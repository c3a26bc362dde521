-- A case with some of its values replaced, all else equal: a new column is added here once.
use Rattle.std.specs.Prelude.{ℕ}
use Rattle.case.specs.declared.Case.{Case}

abbrev pub changed : (station season soil shock body fault split : ℕ) → Case → Case
changed station season soil shock body fault split c =
    record {
      station = station;
      season = season;
      soil = soil;
      layer = c.layer;
      thick = c.thick;
      shock = shock;
      clear = c.clear;
      wire = c.wire;
      body = body;
      fault = fault;
      split = split;
      xr = c.xr;
      across = c.across;
      along = c.along;
      space = c.space;
      depth = c.depth;
      dia = c.dia;
      rods = c.rods;
      rodlen = c.rodlen;
      place = c.place;
      metal = c.metal;
      hz = c.hz;
    }
