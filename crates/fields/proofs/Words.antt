-- The word of a verdict's number, from the code's tests of its bits.
use mathlib.Core.Path.{◌≡◌, refl}
use native.Mathlib.Omega.{arith}
use lib.IntN.{ℤ, pos, negsuc}
use borrow.Author.Tests.{eq-eqb, ne_eqb}
use mir.{Syntax.{w64}, Val.{SFits, of_z}}
use Rattle.text.specs.Text.{bytes}
use Rattle.fields.specs.Fields.{word_of}

module _ {z : ℤ} (f : SFits w64 z) where
  pub safe_word : of_z w64 z ≡ 1 → word_of z ≡ bytes "safe"
  unfolding word_of
  safe_word e = go z f e
    where
      go : (y : ℤ) → SFits w64 y → of_z w64 y ≡ 1 → word_of y ≡ bytes "safe"
      go (pos n) g h = rw (eq-eqb n 1 h)
      go (negsuc n) g h = absurd (omega (arith, g.sfits))

  pub unsafe_word : of_z w64 z ≡ 2 → word_of z ≡ bytes "unsafe"
  unfolding word_of
  unsafe_word e = go z f e
    where
      go : (y : ℤ) → SFits w64 y → of_z w64 y ≡ 2 → word_of y ≡ bytes "unsafe"
      go (pos n) g h = rw (ne_eqb n 1 (λ e. omega arith), eq-eqb n 2 h)
      go (negsuc n) g h = absurd (omega (arith, g.sfits))

pub undecided_word : (z : ℤ) → (of_z w64 z ≡ 1 → ⊥) → (of_z w64 z ≡ 2 → ⊥) → word_of z ≡ bytes "undecided"
unfolding word_of
undecided_word (pos n) k h = rw (ne_eqb n 1 k, ne_eqb n 2 h)
undecided_word (negsuc n) k h = refl
