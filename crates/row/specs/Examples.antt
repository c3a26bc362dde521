-- The verdict (§3.2) and the numbers of a row (§3.1), computed.
use Rattle.std.specs.Prelude.{ℕ}
use mathlib.Core.{Path.{◌≡◌, refl}, List.{[], ◌∷◌}}
use Rattle.std.specs.Prelude.{pos}
use Rattle.interval.specs.{declared.Interval.{Interval}, Operations.{natural}}
use Rattle.decision.specs.{declared.Verdict.TheVariants.{Undecided}, Verdict.{verdict, safe, unsafe, verdict_number}}
use Rattle.row.specs.Row.{numbers}

-- mesh and step against tolerable touch 10 to 12 and tolerable step 30 to 32
abbrev pub told : Interval → Interval → ℕ
told mesh step = verdict_number (verdict (natural 10 12) (natural 30 32) mesh step)

-- safe at the limit; mesh, then step, within the ends; mesh at the upper end, then above; step alone above; both above
pub verdicts : told (natural 8 10) (natural 28 30) ∷ told (natural 8 11) (natural 28 30) ∷ told (natural 1 2) (natural 28 31)
    ∷ told (natural 12 13) (natural 1 2) ∷ told (natural 13 14) (natural 1 2) ∷ told (natural 1 2) (natural 33 34) ∷ told (natural 13 14)
    (natural 33 34) ∷ []
    ≡ 1 ∷ 3 ∷ 3 ∷ 3 ∷ 2 ∷ 2 ∷ 2 ∷ []
unfolding verdict safe unsafe verdict_number natural
verdicts = refl

-- station, season, verdict, size, then the lower and upper end of each pair
pub order : numbers
    (record {
      station = pos 1;
      season = pos 2;
      verdict = Undecided;
      size = pos 4;
      current = natural 5 6;
      factor = natural 7 8;
      tolerable_touch = natural 9 10;
      tolerable_step = natural 11 12;
      mesh = natural 13 14;
      step = natural 15 16;
      resistance = natural 17 18;
      rise = natural 19 20;
    })
    ≡ pos 1 ∷ pos 2 ∷ pos 3 ∷ pos 4 ∷ pos 5 ∷ pos 6 ∷ pos 7 ∷ pos 8 ∷ pos 9 ∷ pos 10 ∷ pos 11 ∷ pos 12 ∷ pos 13 ∷ pos 14 ∷ pos 15 ∷ pos 16 ∷
    pos 17 ∷ pos 18 ∷ pos 19 ∷ pos 20 ∷ []
unfolding numbers natural verdict_number
order = refl
