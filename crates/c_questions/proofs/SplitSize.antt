-- Every split has 64 signed bits: the grid current's parts are at most 17 times the largest, and the injected current is not 0.
use Prim.Native.Nat.{ℕ, zero, suc, ◌+◌, ◌*◌, ◌≤◌, ◌<◌, ◌^◌}
use mathlib.Core.{Path.{◌≡◌, refl, ap}, Bool.{Bool, true, false, cond}, List.{List}}
use native.Mathlib.{Omega.{arith}, Decide.{dec_lt}, Nat.{mul-le-mul}}
use lib.{IntN.{ℤ, nat_abs}, ListN.{length}}
use Rattle.text.proofs.Clash.{clash}
use Rattle.staged.specs.{Check.{bad_count, any_outside, none_injected}}
use Rattle.staged.specs.{Current.{every_other, grid_part, in_phase, quadrature, square_of}, Parts.{Sound, Parts, largest_grid_part}}
use Rattle.staged.specs.Answer.{grid_square, injected_square, grid_split, answer}
use Rattle.staged.proofs.GridCurrent.{Left, left_start, left_step, left_end, left_small}
use Rattle.staged.proofs.SoundTest.{parts, parts_after_first, injected_some}
use Rattle.long_root.{specs.Split.{split_of}, proofs.Smallest.{split_least}}
use Rattle.c_reply.specs.Reply.{SmallSplit}
use Rattle.std.specs.Prelude.{Result, Ok, Err}
use Rattle.refusal.specs.{declared.Refused.{Refused}, Refused.{refuse}}
use Rattle.staged.specs.declared.GridShare.{GridShare}

grid_part_small : {s : List ℤ} → Parts s → nat_abs (grid_part (every_other s)) ≤ largest_grid_part
grid_part_small {s} p = go (length s) (left_start p) (omega arith)
  where
    go : (k : ℕ) {z : ℤ} {i : ℕ} → Left s z i → length s ≤ i + k → nat_abs (grid_part (every_other s)) ≤ largest_grid_part
    go zero {z} {i} l h = rw (left_end p l (omega arith)) at (left_small l)
    go (suc k) {z} {i} l h = next (dec_lt i (length s)) (λ q. go k (left_step p l q) (omega arith))
      where
        next : Dec (i < length s) → (i < length s → nat_abs (grid_part (every_other s)) ≤ largest_grid_part)
            → nat_abs (grid_part (every_other s)) ≤ largest_grid_part
        next (yes q) later = later q
        next (no q) later = rw (left_end p l (omega arith)) at (left_small l)

module _ {s : List ℤ} (h : Sound s) where
  grid_most : grid_square s ≤ largest_grid_part * largest_grid_part + largest_grid_part * largest_grid_part
  unfolding grid_square square_of in_phase quadrature
  grid_most =
      let a = grid_part_small (parts h) in
      let b = grid_part_small (parts_after_first h) in
      omega (arith, mul-le-mul a a, mul-le-mul b b)

  split_small : split_of (grid_square s) (injected_square s) < 2 ^ 63
  split_small = go (dec_lt 100000000000 (split_of (grid_square s) (injected_square s)))
    where
      go : Dec (100000000000 < split_of (grid_square s) (injected_square s)) → split_of (grid_square s) (injected_square s) < 2 ^ 63
      go (yes q) =
          absurd (omega (arith, split_least (grid_square s) (injected_square s) (injected_some h) 100000000000 q, grid_most, injected_some h))
      go (no q) = omega arith

pub every_split_small : (s : List ℤ) (a : Result GridShare Refused) → a ≡ answer s → SmallSplit a
unfolding SmallSplit answer grid_split
every_split_small s (Err why) e = tt
every_split_small s (Ok g) e =
    counted (bad_count (length s)) refl (any_outside s) refl (none_injected s) refl e
  where
    counted : (a : Bool) → bad_count (length s) ≡ a → (b : Bool) → any_outside s ≡ b → (c : Bool) → none_injected s ≡ c
        → Ok g ≡ cond a (refuse 17 0 0) (cond b (refuse 18 0 0) (cond c (refuse 19 0 0) (Ok (grid_split s)))) → g.per_mille < 2 ^ 63
    counted true p b q c r h = clash cc
    counted false p true q c r h = clash cc
    counted false p false q true r h = clash cc
    counted false p false q false r h =
        let e : g ≡ grid_split s = cc in
        let z : g.per_mille ≡ split_of (grid_square s) (injected_square s) = ap (λ (r : GridShare). r.per_mille) e in
        omega (arith, z, split_small (record { count = p; range = q; injected = r }))
