-- `any_outside` tests one number after the other.
use mathlib.Core.{Path.{◌≡◌, refl, ap, ◌∙◌}, List.{List, [], ◌∷◌}, Bool.{◌||◌}}
use lib.IntN.{ℤ}
use Rattle.std.proofs.Common.{rules, tests}
use Rattle.std.proofs.lemmas.Iterator.{YieldsList-from_slice, Search.{any_from_yields_List}}
use Rattle.std.specs.List.{list_any}
use Rattle.staged.specs.Check.{outside, any_outside}
use Rattle.staged.proofs.check.any_outside.Goals as goal

any_is : (s : List ℤ) → list_any outside s ≡ any_outside s
unfolding any_outside
any_is [] = refl
any_is (z ∷ s) = ap (λ b. outside z || b) (any_is s)

pub returns : goal.returns
returns c =
    let s = c.args.parts.now in
    any_from_yields_List outside _ _ _ c.any.ensures.ran (YieldsList-from_slice s c.iter.ensures.rest) (λ x b q k. search (rules, tests)) ∙ any_is s
