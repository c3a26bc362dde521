-- The text of a search: how long it is at most, and what the reading of the input says of it.
use Prim.Native.Nat.{ℕ, zero, suc, ◌-◌, ◌≤◌, ◌<◌}
use mathlib.Core.{Path.{◌≡◌, refl, sym, ◌∙◌}, Logic.{⊎_elim}, List.{List, [], ◌∷◌}}
use native.Mathlib.{Nat.{eq-or-lt_of_le}, Numerals.{add-one}, Omega.{arith}}
use lib.ListN.{length, take, drop}
use borrow.Author.Tests.{le-ltb, lt-ltb}
use Rattle.std.specs.Prelude.{Result, Ok, Err}
use Rattle.refusal.specs.{declared.Refused.{Refused}, Refused.{refuse}}
use Rattle.text.specs.{Text.{bytes, index_of}, Value.{field_value}, Parts.{Skipped}}
use Rattle.text.proofs.{Searching.{index_within}, FieldTurns.{part_end}}
use Rattle.yards.specs.declared.FewestLines.{FewestLines, TheVariants.{Found, None}}
use Rattle.one_line.specs.Answer.{SheetFewest}
use Rattle.fields.{specs.Refusal.{refusal_bytes}, proofs.Refusals.{numbered_most, refused_most}}
use Rattle.search_text.specs.Fewest.{side_of, side_in, sheet_in, input_bytes, input_answer, search_text, fewest_text}

-- ---- how long it is

search_fits : (a : Result FewestLines Refused) → length (search_text a) ≤ refusal_bytes
unfolding search_text
search_fits (Ok (Found lines rods tried)) = omega (arith, numbered_most (bytes "found") (lines ∷ rods ∷ tried ∷ []))
search_fits (Ok (None tried)) = omega (arith, numbered_most (bytes "none") (tried ∷ []))
search_fits (Err why) = omega (arith, refused_most why.0 why.1 why.2)

pub fewest_fits : (s : List ℕ) → length (fewest_text s) ≤ refusal_bytes
unfolding fewest_text
fewest_fits s = search_fits (input_answer s)

-- ---- the input

pub long_input : (s : List ℕ) → input_bytes < length s → refuse 1 0 0 ≡ input_answer s
unfolding input_answer
long_input s h = rw (lt-ltb input_bytes (length s) h)

-- nothing is left past the end
past : (n : ℕ) (s : List ℕ) → length s ≤ n → drop n s ≡ []
past zero [] h = refl
past (suc n) [] h = refl
past zero (x ∷ s) h = absurd (omega arith)
past (suc n) (x ∷ s) h = past n s (omega arith)

module _ (s : List ℕ) {e r : ℕ} (ends : e ≡ index_of 10 s) (k : Skipped e (length s) r) where
  sheet_is : take (length s - r) (drop r s) ≡ sheet_in s
  unfolding sheet_in
  sheet_is =
      part_end s r
      ∙ ⊎_elim (λ h. past r s (omega (arith, k.none (omega arith))) ∙ sym (past (suc (index_of 10 s)) s (omega arith)))
      (λ h. rw (k.next h, ends, add-one)) (eq-or-lt_of_le (rw ends (index_within 10 s)))

  pub input_answer_lem : {side : ℕ} {a : Result FewestLines Refused} → length s ≤ input_bytes → side ≡ side_of (field_value (take e s))
      → SheetFewest (take (length s - r) (drop r s)) side a → a ≡ input_answer s
  unfolding input_answer side_in
  input_answer_lem short d a = a.answer_is ∙ rw (le-ltb input_bytes (length s) short, sheet_is, d, ends)
