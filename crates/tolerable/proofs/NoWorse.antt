-- A shorter shock or a heavier body, all else equal but fault current and split: the ends of the tolerable voltages rise or stay.
use Prim.Native.Nat.{ℕ, ◌*◌, ◌^◌, ◌≤◌}
use mathlib.Core.{Path.{◌≡◌}, Bool.{Bool, true, false, cond}, Logic.{◌⊎◌, inl, inr}}
use native.Mathlib.{Omega.{arith}, Nat.{mul-le-mul_right}}
use lib.Dec.{lit≤, lit<, eqb}
use borrow.Author.Tests.{ne_eqb}
use Rattle.interval.proofs.Below.{Below, below_more, below_divided}
use Rattle.enclosure.proofs.RootSpan.{root_span, root_below}
use Rattle.case.specs.{declared.Case.{Case}, Bounds.{Bounds}, Eased.{eased}}
use Rattle.tolerable.specs.Ends.{layered, layer_ends, body_factor, time_root, top_ends, tolerable_ends, touch_ends, step_ends}
use Rattle.tolerable.proofs.Spans.{sum_span}

-- k rises with the body
body_rises : (a b : ℕ) → (a ≡ 50) ⊎ (a ≡ 70) → a ≤ b → cond (eqb a 50) 116 157 ≤ cond (eqb b 50) 116 157
body_rises a b (inl e) h = rw e (least (eqb b 50))
  where
    least : (t : Bool) → 116 ≤ cond t 116 157
    least true = lit≤ tt
    least false = lit≤ tt
body_rises a b (inr e) h = rw (e, ne_eqb b 50 (λ z. omega arith)) (lit≤ tt)

module _ {c : Case} (b : Bounds c) (fault split shock body : ℕ) (least : 9 ≤ shock) (shorter : shock ≤ c.shock)
    (heavier : c.body ≤ body) where
  abbrev other : Case
  other = eased fault split shock body c

  top_rises : (weight : ℕ) → Below (top_ends c weight) (top_ends other weight)
  unfolding top_ends layer_ends layered body_factor
  top_rises weight = below_more (sum_span b weight) (body_rises c.body body b.body heavier)

  tolerable_rises : (weight : ℕ) → Below (tolerable_ends c weight) (tolerable_ends other weight)
  unfolding tolerable_ends time_root
  tolerable_rises weight =
      below_divided (top_rises weight) 50000 (lit< tt)
      (root_span (shock * 10 ^ 13) 9000000 200000000 (omega arith) (omega (arith, b.shock.high)))
      (root_below (shock * 10 ^ 13) (c.shock * 10 ^ 13) (mul-le-mul_right (10 ^ 13) shorter))

  pub tolerable_touch_rises : Below (touch_ends c) (touch_ends other)
  unfolding touch_ends
  tolerable_touch_rises = tolerable_rises 3

  pub tolerable_step_rises : Below (step_ends c) (step_ends other)
  unfolding step_ends
  tolerable_step_rises = tolerable_rises 12
