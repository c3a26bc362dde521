-- `grid_part` takes one branch after the other from the injected current.
use Prim.Native.Nat.{ℕ, ◌+◌, ◌*◌, ◌/◌, ◌<◌}
use mathlib.Core.{Path.{◌≡◌, ap, ◌∙◌}, List.{List, []}}
use native.Mathlib.Omega.{arith}
use borrow.Author.Rules.{part_to_end}
use lib.{IntN.{ℤ, pos, ◌-ℤ◌}, ListN.{get_or, drop, length, length-drop}, Seq.{get_or-drop}}
use mir.{Syntax.{w64}, Val.{SFits, to_z, of_z}, Facts.{to_z-of_z}}
use Rattle.std.specs.Simd.{first_chunks}
use Rattle.whole.proofs.Bits.{small_fits}
use Rattle.staged.specs.{Check.{largest_part}, Parts.{Parts}}
use Rattle.staged.proofs.{GridCurrent.{Left, left_start, left_step, left_end, left_small, second_of}}
use Rattle.staged.proofs.grid.grid_part.Goals as goal
use Rattle.staged.proofs.grid.grid_part.Goals.{After-as_chunks, In-loop-part}

-- a current of the list is as its bits are read
read : {s : List ℤ} → Parts s → (i : ℕ) → to_z w64 (of_z w64 (get_or s i (pos 0))) ≡ get_or s i (pos 0)
unfolding largest_part
read {s} p i = to_z-of_z (small_fits (omega (arith, p.size i)))

pub loop-part-init : goal.loop-part-init
loop-part-init c = rw (read c.requires 0) (left_start c.requires)

pairs_are : (c : After-as_chunks) → let t = drop 1 c.args.parts.now in c.as_chunks.result.0.now ≡ first_chunks 2 (length t / 2) t
pairs_are c = rw (part_to_end c.args.parts.now 1) at c.as_chunks.ensures.front

-- what is left after one branch more
module _ (c : In-loop-part) where
  abbrev s : List ℤ
  s = c.args.parts.now

  abbrev k : ℕ
  k = c.loop-part.part-index

  within : k < length (drop 1 s) / 2
  within = omega (arith, c.loop-part-test.true, rw (part_to_end s 1) at c.as_chunks.ensures.front_len)

  branch : get_or (get_or c.as_chunks.result.0.now k []) 1 (pos 0) ≡ get_or s (2 * (k + 1)) (pos 0)
  branch =
      let e : 1 + (2 * k + 1) ≡ 2 * (k + 1) = omega arith in
      ap (λ (t : List (List ℤ)). get_or (get_or t k []) 1 (pos 0)) (pairs_are (goal.at.In-loop-part c).After-as_chunks)
      ∙ second_of _ (drop 1 s) k within ∙ get_or-drop 1 s (2 * k + 1) (pos 0) ∙ ap (λ i. get_or s i (pos 0)) e

  next : Left s (to_z w64 c.loop-part.left-bits -ℤ get_or s (2 * (k + 1)) (pos 0)) (2 * (k + 1 + 1))
  next =
      let e : 2 * (k + 1) + 2 ≡ 2 * (k + 1 + 1) = omega arith in
      rw e at (left_step c.requires c.loop-part.invariant (omega (arith, within, length-drop 1 s)))

  next_fits : SFits w64 (to_z w64 c.loop-part.left-bits -ℤ get_or s (2 * (k + 1)) (pos 0))
  next_fits = small_fits (omega (arith, left_small next))

pub overflow_sub-left : goal.overflow_sub-left
overflow_sub-left c =
    let l = (goal.at.overflow_sub-left c).In-loop-part in
    rw (branch l, read c.requires (2 * (k l + 1))) (next_fits l)

pub loop-part-preserved : goal.loop-part-preserved
loop-part-preserved c =
    let l = (goal.at.loop-part-preserved c).In-loop-part in
    rw (branch l, read c.requires (2 * (k l + 1)), to_z-of_z (next_fits l)) (next l)

pub returns : goal.returns
returns c =
    let l = c.loop-part.invariant in
    let f : length c.as_chunks.result.0.now ≡ length (drop 1 c.args.parts.now) / 2 = rw (part_to_end c.args.parts.now 1) at c.as_chunks.ensures.front_len in
    record { is = left_end c.requires l (omega (arith, f, c.loop-part-test.false, length-drop 1 c.args.parts.now)); small = left_small l }
