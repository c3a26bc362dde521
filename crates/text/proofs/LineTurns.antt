-- A turn of a loop over lines: rest holds the lines that are left, the first of them ends at e, and the others begin at r.
use Rattle.std.proofs.Common.{ℕ, suc, ◌+◌, ◌-◌, ◌<◌, ◌≤◌}
use mathlib.Core.{Path.{◌≡◌, sym, ap, ◌∙◌}, Logic.{⊎_elim}, List.{List, [], ◌∷◌}}
use native.Mathlib.{Numerals.{add-one}, Nat.{eq-or-lt_of_le, lt_of_not-le}, Decide.{dec_le}, Omega.{arith}}
use lib.{ListN.{length, get_or, take, drop, length-drop, drop_of_length-le}, Seq.{drop-cons}}
use Rattle.text.specs.{Text.{index_of, lines_of}, Parts.{Skipped}}
use Rattle.text.proofs.{Searching.{index_within}, Lines.{lines_next}, FieldTurns.{part_end}}

-- what is left after a part is shorter, whatever byte ends the part
pub skipped_shorter : (rest : List ℕ) {e r : ℕ} → 0 < length rest → Skipped e (length rest) r
    → length (take (length rest - r) (drop r rest)) < length rest
skipped_shorter rest {e} {r} some s = rw (part_end rest r) (go (dec_le (length rest) e))
  where
    go : Dec (length rest ≤ e) → length (drop r rest) < length rest
    go (yes h) = omega (arith, s.none h, length-drop r rest)
    go (no h) = omega (arith, s.next (lt_of_not-le h), length-drop r rest)

module _ (rest : List ℕ) (e r : ℕ) (some : 0 < length rest) (ends : e ≡ index_of 10 rest) (s : Skipped e (length rest) r) where
  -- what is left after the line
  line_rest : take (length rest - r) (drop r rest) ≡ drop (suc e) rest
  line_rest =
      part_end rest r
      ∙ ⊎_elim
      (λ h. drop_of_length-le rest {i = r} (omega (arith, s.none (omega arith))) ∙ sym (drop_of_length-le rest {i = suc e} (omega arith)))
      (λ h. ap (λ (n : ℕ). drop n rest) (s.next (omega arith) ∙ add-one e))
      (eq-or-lt_of_le (index_within 10 rest))

  pub line_turn : lines_of rest ≡ take e rest ∷ lines_of (take (length rest - r) (drop r rest))
  line_turn = rw (line_rest, ends) (lines_next rest some)

  pub line_shorter : length (take (length rest - r) (drop r rest)) < length rest
  line_shorter = rw line_rest (omega (arith, length-drop (suc e) rest))

-- the line with index n of some lines is the first of those from n on
pub record Next (n : ℕ) (ls : List (List ℕ)) (x : List ℕ) (rs : List (List ℕ)) : Type 0 where
  pub within : n < length ls
  pub is : get_or ls n [] ≡ x
  pub after : drop (n + 1) ls ≡ rs

pub next_of : (n : ℕ) (ls : List (List ℕ)) (x : List ℕ) (rs : List (List ℕ)) → drop n ls ≡ x ∷ rs → Next n ls x rs
next_of n ls x rs q =
    let m : n < length ls = omega (arith, length-drop n ls, ap length q) in
    let d : get_or ls n [] ∷ drop (suc n) ls ≡ x ∷ rs = sym (drop-cons ls n [] m) ∙ q in
    record { within = m; is = cc; after = rw add-one (cc) }
