-- §7.2: what is counted of a station's lines, line by line from the last to the first.
use Rattle.std.specs.Prelude.{ℕ, ◌+◌, ◌<◌, ◌^◌, min}
use mathlib.Core.{Bool.{Bool, cond, not, ◌&&◌, ◌||◌}, List.{List, [], ◌∷◌}}
use lib.{Dec.{eqb}, ListN.{length}}
use Rattle.whole.specs.Count.{one}
use Rattle.case.specs.{declared.Case.{Case}, Bounds.{Bounds}}
use Rattle.tally.specs.declared.Tally.{Tally}
use Rattle.tally.specs.Lines.{licensed, count_of, has_line, answered_unsafe, answered_undecided, other_yard, too_small}
use Rattle.tally.specs.Fault.{common_fault}

-- the lines are within their bounds
unfoldable pub EveryBounds : List Case → Type 0
EveryBounds [] = Unit {0}
EveryBounds (c ∷ cs) = Bounds c × EveryBounds cs

-- of some lines, whose yard is compared with that of a case, and whose conductor has this cross-section of its own, or 0
unfoldable pub tally_of : Case → ℕ → List Case → Tally
tally_of yard area lines =
    record {
      lines = length lines;
      first = has_line 1 lines;
      second = has_line 2 lines;
      third = has_line 3 lines;
      fourth = has_line 4 lines;
      not_safe = count_of answered_unsafe lines;
      undecided = count_of answered_undecided lines;
      other = count_of (other_yard yard) lines;
      small = count_of (too_small area) lines;
      fault = common_fault lines;
    }

-- one line more
unfoldable pub add_line : Case → ℕ → Case → Tally → Tally
add_line yard area c t =
    record {
      lines = 1 + t.lines;
      first = eqb c.season 1 || t.first;
      second = eqb c.season 2 || t.second;
      third = eqb c.season 3 || t.third;
      fourth = eqb c.season 4 || t.fourth;
      not_safe = one (answered_unsafe c) + t.not_safe;
      undecided = one (answered_undecided c) + t.undecided;
      other = one (other_yard yard c) + t.other;
      small = one (too_small area c) + t.small;
      fault = min (common_fault (c ∷ [])) t.fault;
    }

-- counts that 32 bits hold with one more
pub record Small (t : Tally) : Type 0 where
  pub lines : t.lines < 2 ^ 16
  pub not_safe_lem : t.not_safe < 2 ^ 16
  pub undecided : t.undecided < 2 ^ 16
  pub other : t.other < 2 ^ 16
  pub small : t.small < 2 ^ 16

-- 1 where a season is licensed and has no line
unfoldable pub lacks : ℕ → ℕ → Bool → ℕ
lacks season seasons has = one (licensed season seasons && not has)

unfoldable pub missing_by : ℕ → Tally → ℕ
missing_by seasons t = lacks 1 seasons t.first + lacks 2 seasons t.second + lacks 3 seasons t.third + lacks 4 seasons t.fourth

-- "1 released or 2 held": "Released exactly when the five counts are 0", which they are where their sum is
unfoldable pub released : ℕ → ℕ → ℕ → ℕ → ℕ → ℕ
released noLine unsafe undecided other small = cond (eqb (noLine + unsafe + undecided + other + small) 0) 1 2
