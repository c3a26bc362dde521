-- The root of a million times the grid's square with its three digits, rounded up, is the split.
use Prim.Native.Nat.{ℕ, ◌+◌, ◌*◌, ◌≤◌, ◌<◌}
use mathlib.Core.Path.{◌≡◌}
use native.Mathlib.{Omega.{arith}, Nat.{mul-le-mul, mul-le-mul_left, mul-le-mul_right}}
use Rattle.long_root.specs.{declared.Root.{Root}, Split.{million, split_of}, LongRoot.{Squares, radicand, Greatest}}
use Rattle.long_root.proofs.{LongRoot.{square_le}, Smallest.{split_is}}

rises : {m w i : ℕ} → m < w → 0 < i → m * m * i < w * w * i
rises {m} {w} {i} h k =
    let a : m * m + 1 ≤ w * w = omega (arith, mul-le-mul h h) in
    omega (arith, mul-le-mul_right i a)

not_falls : {m w : ℕ} (i : ℕ) → m ≤ w → m * m * i ≤ w * w * i
not_falls i h = mul-le-mul_right i (mul-le-mul h h)

module _ {grid injected : ℕ} (r : Root) (s : Squares grid injected) (g : Greatest injected r)
    (e : radicand injected r ≡ million * grid) where
  pub exact_split : r.rest ≡ 0 → r.whole ≡ split_of grid injected
  unfolding radicand
  exact_split z =
      split_is grid injected s.some r.whole (omega (arith, e))
      (λ m l. omega (arith, e, rises l s.some))

  pub next_split : (r.rest ≡ 0 → ⊥) → r.whole + 1 ≡ split_of grid injected
  unfolding radicand Greatest
  next_split z =
      split_is grid injected s.some (r.whole + 1) (omega (arith, e, g))
      (λ m l. let k : m ≤ r.whole = omega arith in omega (arith, e, not_falls injected k))

  pub split_small : r.whole ≤ 100000000000
  unfolding radicand
  split_small = square_le r.whole 100000000000 (omega (arith, e, s.grid_most, mul-le-mul_left (r.whole * r.whole) s.some))
