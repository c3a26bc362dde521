-- The closure compares the bits of two numbers.
use Rattle.std.proofs.Common.{◌∙◌, rules, FitsSigned, w64}
use Rattle.station_sums.proofs.Same.{same_bits, same_comm}
use Rattle.appearance.proofs.fn.place_of.position.Goals as goal

pub returns : goal.returns
returns c =
    let here : FitsSigned w64 c.args.here.now = search rules in
    let station : FitsSigned w64 c.captures.station = search rules in
    same_bits here station ∙ same_comm c.args.here.now c.captures.station
