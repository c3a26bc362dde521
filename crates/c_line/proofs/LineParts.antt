-- What the three questions put in a part of their own, of a case within its bounds.
use Prim.Native.Nat.{ℕ, ◌≤◌}
use mathlib.Core.{Path.{◌≡◌, refl, sym, ap, ◌∙◌}, List.{List, [], ◌∷◌, ◌++◌, append-nil}}
use native.Mathlib.Omega.{arith}
use lib.{IntN.{ℤ}, ListN.{length, drop, set}, Seq.{drop-length}}
use mir.{Syntax.{w64}, Val.{SFits}, Facts.{to_z-of_z}}
use Rattle.whole.proofs.Bits.{read}
use Rattle.text.proofs.Clash.{clash}
use Rattle.case.specs.{declared.Case.{Case}, Bounds.{Bounds}}
use Rattle.row.specs.{Row.{numbers}, Ends.{row_of}}
use Rattle.working.specs.Numbers.{working_numbers}
use Rattle.margin.{specs.{Margin.{margins_of}, Meaning.{Right}}, proofs.Right.{right_margins}}
use Rattle.c_line.specs.declared.Question.{Question, TheVariants.{Margins, Working, Headroom}}
use Rattle.c_line.specs.Line.{width_of, MarginsLine, LineOf}
use Rattle.std.specs.Prelude.{Option, Some, None}

-- as many numbers as a part has take the place of all of it
pub put_whole : (zs part : List ℤ) → length part ≡ length zs → zs ++ drop (length zs) part ≡ zs
put_whole zs part e = ap (λ (k : ℕ). zs ++ drop k part) (sym e) ∙ ap (λ (l : List ℤ). zs ++ l) (drop-length part) ∙ append-nil zs

-- two numbers that code holds as bits
pub read_both : {x y : ℤ} → SFits w64 x → SFits w64 y → ◌≡◌ {A = List ℤ} (read x ∷ read y ∷ []) (x ∷ y ∷ [])
read_both f g = rw (to_z-of_z f, to_z-of_z g)

-- the one number of a part
pub set_one : (part : List ℤ) (z : ℤ) → length part ≡ 1 → set part 0 z ≡ z ∷ []
set_one [] z e = clash e
set_one (a ∷ []) z e = refl
set_one (a ∷ b ∷ part) z e = absurd (omega arith)

module _ {c : Case} (b : Bounds c) where
  -- a row has margins
  pub margins_some : margins_of (numbers (row_of c)) ≡ None → ⊥
  unfolding Right
  margins_some e = rw e at (right_margins b)

  pub margins_line : {r : Option (ℤ × ℤ)} {mesh step : ℤ} {part : List ℤ} → r ≡ margins_of (numbers (row_of c)) → r ≡ Some (mesh, step)
      → part ≡ mesh ∷ step ∷ [] → MarginsLine c part
  margins_line e f p = record { mesh = _; step = _; is = p; margins = sym e ∙ f }

-- ---- what is asked

pub line_length_lem : (question : Question) (c : Case) (part : List ℤ) → LineOf question c part → length part ≡ width_of question
unfolding LineOf width_of working_numbers
line_length_lem Margins c part l = ap length l.is
line_length_lem Working c part l = ap length l.is
line_length_lem Headroom c part l = ap length l.is

pub width_most : (question : Question) → width_of question ≤ 30
unfolding width_of
width_most Margins = omega arith
width_most Working = omega arith
width_most Headroom = omega arith
