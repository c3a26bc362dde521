-- `place_of` asks the marks, then goes up to the first equal station.
use Rattle.std.proofs.Common.{◌≡◌, rules, tests, to_z-of_z}
use Rattle.std.proofs.lemmas.{Iterator.{YieldsList-from_slice}, Iterator.Search.{position_from_yields_List}}
use Rattle.station_sums.{specs.Summary.{same_z}}
use Rattle.appearance.specs.Places.{mark_of, place_of}
use Rattle.appearance.proofs.{Standing.{not_among}, Marks.{not_marked, first_not_marked}}
use Rattle.appearance.proofs.place_of.Goals as goal

pub returns-then-not-is_marked : goal.returns-then-not-is_marked
returns-then-not-is_marked c =
    let mark : c.mark.result ≡ mark_of c.args.station = rw (to_z-of_z c.ranges.station) at c.mark.ensures in
    not_among (not_marked c.requires (first_not_marked c.requires (rw mark at (c.is_marked.ensures c.if-not-is_marked.true))))

pub returns : goal.returns
unfolding place_of
returns c =
    position_from_yields_List (same_z c.args.station) _ _ _ c.position.ensures.ran (YieldsList-from_slice c.args.known.now cc) (λ x b q k. search (rules, tests))
