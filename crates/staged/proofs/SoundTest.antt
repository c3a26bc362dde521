-- A test that passed the checks: its parts, and the squares of its grid current and its injected current.
use Prim.Native.Nat.{ℕ, zero, suc, ◌+◌, ◌*◌, ◌≤◌, ◌<◌}
use mathlib.Core.{Path.{◌≡◌}, Bool.{false, ◌&&◌}, List.{List}}
use native.Mathlib.{Omega.{arith}, Nat.{mul-le-mul}}
use lib.{Dec.{eqb}, IntN.{ℤ, pos, nat_abs}, ListN.{length, get_or, drop, length-drop}, Seq.{get_or-drop}}
use Rattle.staged.specs.{Check.{fewest_numbers, largest_part, none_injected}}
use Rattle.staged.specs.{Current.{in_phase, quadrature, square_of}, Answer.{grid_square, injected_square, grid, grid_split}}
use Rattle.staged.specs.Parts.{largest_grid_part, Sound, Parts, GridPart}
use Rattle.long_root.specs.{Split.{split_of}, LongRoot.{Squares}}
use Rattle.staged.proofs.{Checks.{count_low, count_high, parts_inside}, GridCurrent.{first_kept}}
use Rattle.std.specs.Prelude.{Ok}

some_square : (a b : ℕ) → eqb a 0 && eqb b 0 ≡ false → 0 < a * a + b * b
some_square zero zero h = let z : ◌≡◌ {A = ℕ} 0 1 = cc in omega arith
some_square zero (suc b) h = omega arith
some_square (suc a) b h = omega arith

square_most : (a b : ℤ) (m : ℕ) → nat_abs a ≤ m → nat_abs b ≤ m → square_of a b ≤ m * m + m * m
unfolding square_of
square_most a b m h k = omega (arith, mul-le-mul h h, mul-le-mul k k)

module _ {s : List ℤ} (h : Sound s) where
  pub two_numbers : 1 < length s
  unfolding fewest_numbers
  two_numbers = omega (arith, count_low _ h.count)

  pub parts : Parts s
  parts = record { some = omega (arith, two_numbers); most = count_high _ h.count; size = parts_inside s h.range }

  pub parts_after_first : Parts (drop 1 s)
  parts_after_first =
      record {
        some = rw (length-drop 1 s) (omega (arith, two_numbers));
        most = rw (length-drop 1 s) (omega (arith, count_high _ h.count));
        size = λ i. rw (get_or-drop 1 s i (pos 0)) (parts.size (1 + i));
      }

  pub injected_small : (nat_abs (get_or s 0 (pos 0)) ≤ largest_grid_part) × (nat_abs (get_or s 1 (pos 0)) ≤ largest_grid_part)
  unfolding largest_part
  injected_small = (omega (arith, parts.size 0), omega (arith, parts.size 1))

  injected_is : injected_square s ≡ square_of (get_or s 0 (pos 0)) (get_or s 1 (pos 0))
  unfolding injected_square in_phase quadrature
  injected_is = rw (first_kept, first_kept, get_or-drop)

  pub answer_is : {a b : ℤ} {g i n : ℕ} → GridPart s a → GridPart (drop 1 s) b → g ≡ square_of a b
      → i ≡ square_of (get_or s 0 (pos 0)) (get_or s 1 (pos 0)) → n ≡ split_of g i → grid a b n ≡ grid_split s
  unfolding grid_split grid_square in_phase quadrature
  answer_is p q e f r = cc (p.is, q.is, injected_is)

  pub squares : (a b : ℤ) → nat_abs a ≤ largest_grid_part → nat_abs b ≤ largest_grid_part
      → Squares (square_of a b) (square_of (get_or s 0 (pos 0)) (get_or s 1 (pos 0)))
  unfolding square_of none_injected largest_part
  squares a b p q =
      record {
        grid_most = square_most a b 17000000 p q;
        some = some_square _ _ h.injected;
        most = square_most (get_or s 0 (pos 0)) (get_or s 1 (pos 0)) 1000000 (parts.size 0) (parts.size 1);
      }

  pub injected_some : 0 < injected_square s
  injected_some = rw injected_is (squares (pos 0) (pos 0) (omega arith) (omega arith)).some
