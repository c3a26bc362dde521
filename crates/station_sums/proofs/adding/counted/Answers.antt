-- `counted` compares the bits of two numbers.
use Rattle.std.proofs.Common.{Bool, true, false, ◌≡◌, ◌∙◌, refl, ap, rules}
use mir.{Syntax.{w64}, Val.{SFits, bool_byte}}
use Rattle.whole.{specs.Count.{one}, proofs.Count.{one_most}}
use Rattle.station_sums.{specs.Summary.{same_z}, proofs.Same.{same_bits}}
use Rattle.station_sums.proofs.adding.counted.Goals as goal
use Rattle.station_sums.proofs.adding.counted.Goals.{Start}

held : (s : Start) → SFits w64 s.args.e.verdict × SFits w64 s.args.v
held s = search rules

byte_one : (b : Bool) → bool_byte b ≡ one b
unfolding one
byte_one true = refl
byte_one false = refl

pub returns : goal.returns
returns c =
    let h = held (goal.at.returns c).Start in
    let e = c.from.ensures ∙ byte_one _ ∙ ap one (same_bits h.0 h.1) in
    record { value = e; at_most_one = rw e (one_most (same_z c.args.e.verdict c.args.v)) }
