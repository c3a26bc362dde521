-- `count_small` compares the cross-section with the size.
use Rattle.std.proofs.Common.{Bool, true, false, ◌≡◌, refl, arith, pos, FitsSigned, w64, to_z-of_z}
use mir.Val.{bool_byte}
use Rattle.whole.specs.Count.{one}
use Rattle.tally.proofs.Counts.{small_is}
use Rattle.tally.proofs.add.count_small.Goals as goal

byte_one : (b : Bool) → bool_byte b ≡ one b
unfolding one
byte_one true = refl
byte_one false = refl

pub returns : goal.returns
returns c =
    let held : FitsSigned w64 (pos c.area_of.result) = record { sfits = omega arith } in
    rw (c.from-2.ensures, c.from.ensures, to_z-of_z held, to_z-of_z c.ranges.size, c.area_of.ensures, small_is c.args.c c.args.area c.args.size c.requires.size_value)
    (byte_one _)
