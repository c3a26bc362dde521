-- `case::parts::agree` meets its contract.
use mathlib.Core.{Path.{◌≡◌, refl}, Bool.{Bool, true, false, cond, not, beq}}
use lib.Dec.{eqb}
use Rattle.case.specs.Check.{agree as agreeing}
use Rattle.case.proofs.parts.agree.Goals as goal

same : (a b : Bool) → beq a b ≡ cond a b (not b)
same true true = refl
same true false = refl
same false true = refl
same false false = refl

pub returns : goal.returns
unfolding agreeing
returns c = same (eqb c.args.a 0) (eqb c.args.b 0)
