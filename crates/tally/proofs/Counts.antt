-- What is counted of a station's lines, with one line more.
use Prim.Native.Nat.{ℕ, suc, ◌+◌, ◌*◌, ◌≤◌}
use mathlib.Core.{Path.{◌≡◌}, Bool.{Bool, false, not, ◌&&◌}, List.{List, [], ◌∷◌}}
use native.Mathlib.{Nat.{mul-le-mul}, Omega.{arith}}
use lib.{IntN.{ℤ, pos}, ListN.{length}, Signed.{lt_z}}
use Rattle.whole.{specs.Count.{one}, proofs.Count.{one_most}}
use Rattle.case.specs.{declared.Case.{Case}, Bounds.{Bounds}}
use Rattle.judgement.specs.Limits.{most_lines}
use Rattle.row.specs.Ends.{row_of}
use Rattle.tally.specs.declared.Tally.{Tally}
use Rattle.tally.specs.Lines.{licensed, count_of, has_line, answered_unsafe, answered_undecided, other_yard, area_of, too_small}
use Rattle.tally.specs.Tally.{EveryBounds, tally_of, add_line, Small, lacks, missing_by}
use Rattle.tally.proofs.Faults.{common_none, common_step}

-- what a test counts
pub counts_most : {r : ℕ} (b : Bool) → r ≡ one b → r ≤ 1
counts_most b e = rw e (one_most b)

count_most : (test : Case → Bool) (cs : List Case) → count_of test cs ≤ length cs
unfolding count_of
count_most test [] = omega arith
count_most test (c ∷ cs) = omega (arith, one_most (test c), count_most test cs)

-- ---- the counts of some lines

pub tally_none : (yard : Case) (area : ℕ) → tally_of yard area []
    ≡ record {
      lines = 0;
      first = false;
      second = false;
      third = false;
      fourth = false;
      not_safe = 0;
      undecided = 0;
      other = 0;
      small = 0;
      fault = 80000;
    }
unfolding tally_of count_of has_line
tally_none yard area = rw common_none

pub tally_step : (yard : Case) (area : ℕ) {c : Case} (cs : List Case) → Bounds c → EveryBounds cs
    → tally_of yard area (c ∷ cs) ≡ add_line yard area c (tally_of yard area cs)
unfolding tally_of add_line count_of has_line
tally_step yard area {c} cs b d =
    let l : suc (length cs) ≡ 1 + length cs = omega arith in
    rw (common_step cs b d, l)

pub tally_small : (yard : Case) (area : ℕ) (cs : List Case) → length cs ≤ most_lines → Small (tally_of yard area cs)
unfolding tally_of
tally_small yard area cs h =
    record {
      lines = omega arith;
      not_safe_lem = omega (arith, count_most answered_unsafe cs);
      undecided = omega (arith, count_most answered_undecided cs);
      other = omega (arith, count_most (other_yard yard) cs);
      small = omega (arith, count_most (too_small area) cs);
    }

-- ---- the seasons without a line

pub missing_most : (seasons : ℕ) (t : Tally) → missing_by seasons t ≤ 4
unfolding missing_by lacks
missing_most seasons t =
    omega (
      arith,
      one_most (licensed 1 seasons && not t.first),
      one_most (licensed 2 seasons && not t.second),
      one_most (licensed 3 seasons && not t.third),
      one_most (licensed 4 seasons && not t.fourth),
    )

-- ---- a conductor too small

pub square_most : {c : Case} → Bounds c → c.dia * c.dia ≤ 90000
square_most {c} b = omega (arith, mul-le-mul b.dia.high b.dia.high)

-- the cross-section is below the row's size
pub small_is : (c : Case) (area : ℕ) (size : ℤ) → size ≡ (row_of c).size → lt_z (pos (area_of area c)) size ≡ too_small area c
unfolding too_small row_of
small_is c area size e = rw e
