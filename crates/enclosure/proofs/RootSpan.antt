-- The span of a square root's pair, by squares.
use Prim.Native.Nat.{ℕ, ◌+◌, ◌*◌, ◌≤◌, ◌<◌}
use mathlib.Core.Path.{refl}
use native.Mathlib.{Omega.{arith}, Nat.{le_trans, mul-le-mul}, Decide.{dec_le}}
use Rattle.interval.{specs.{Root.{IsRoot}, Span.{Span}}, proofs.{Below.{Below}, Span.{span_natural}}}
use Rattle.enclosure.specs.SquareRoot.{square_root, root_pair}
use Rattle.enclosure.proofs.SquareRoot.{square_root_lem}

root_from : {x r : ℕ} (l : ℕ) → IsRoot x r → l * l ≤ x → l ≤ r
root_from {x} {r} l h k = go (dec_le l r)
  where
    go : Dec (l ≤ r) → l ≤ r
    go (yes p) = p
    go (no p) = let q : r + 1 ≤ l = omega arith in absurd (omega (arith, h.high, mul-le-mul q q))

root_to : {x r : ℕ} (u : ℕ) → IsRoot x r → x < u * u → r + 1 ≤ u
root_to {x} {r} u h k = go (dec_le (r + 1) u)
  where
    go : Dec (r + 1 ≤ u) → r + 1 ≤ u
    go (yes p) = p
    go (no p) = let q : u ≤ r = omega arith in absurd (omega (arith, h.low, mul-le-mul q q))

pub root_span : (x l u : ℕ) → l * l ≤ x → x < u * u → Span (root_pair x) l u 1
unfolding root_pair
root_span x l u h k =
    let r = square_root_lem x in
    span_natural (square_root x) (square_root x + 1) (root_from l r h) (omega arith) (root_to u r k) (omega arith)

-- the root of a greater number is not less
pub root_below : (x y : ℕ) → x ≤ y → Below (root_pair x) (root_pair y)
unfolding root_pair
root_below x y h =
    let l = root_from (square_root x) (square_root_lem y) (le_trans (square_root_lem x).low h) in
    record {
      a = square_root x;
      b = square_root x + 1;
      c = square_root y;
      d = square_root y + 1;
      left = refl;
      right = refl;
      left_order = omega arith;
      right_order = omega arith;
      lowers = l;
      uppers = omega arith;
    }
