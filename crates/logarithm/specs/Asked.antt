-- The logarithm asked alone. §6.3: "The logarithm is answered as a pair in signed billionths that holds the exact value, at most 2,000
-- apart. It may be asked alone, of a fraction of two whole numbers from 1 to 10^15".
use Rattle.std.specs.Prelude.{ℕ}
use mathlib.Core.{Path.{◌≡◌}, Bool.{Bool, cond, ◌&&◌}}
use Rattle.std.specs.Prelude.{leb}
use Rattle.exact.specs.{Fraction.{Fraction, whole, decimal, ◌÷f◌}, Logarithm.{ln_of}, Reported.{ten}, Answered.{RightPair}}
use Rattle.logarithm.specs.Ends.{most, ln_ends}
use Rattle.std.specs.Prelude.{Result, Ok}
use Rattle.refusal.specs.{declared.Refused.{Refused}, Refused.{refuse}}
use Rattle.interval.specs.declared.Interval.{Interval}

-- "The logarithm's ends must be at most 200 billionths apart"
unfoldable pub width : Fraction
width = decimal 200 9

unfoldable pub inside : ℕ → Bool
inside n = leb 1 n && leb n most

-- "one outside is refused with 5, line 0, column 1 (upper number) or 2 (lower)"
unfoldable pub refused : ℕ → Result Interval Refused
refused column = refuse 5 0 column

-- the upper number comes first
unfoldable pub answer_of : ℕ → ℕ → Result Interval Refused
answer_of p q = cond (inside p) (cond (inside q) (Ok (ln_ends p q)) (refused 2)) (refused 1)

-- the answer, and what holds of the pair of ends, its free part. Two wrong programs: one that refuses all fractions breaks `answer`; one
-- whose ends are −35 and 35 for every fraction, by that name, breaks `right`.
pub record Answered (p q : ℕ) (r : Result Interval Refused) : Type 0 where
  pub answer : r ≡ answer_of p q
  pub right : RightPair (ln_of (whole p ÷f whole q)) (ten 9) (λ A. width) r
