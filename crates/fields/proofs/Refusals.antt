-- A line of a word and numbers in parts: its word, then a comma and a number for each, then its byte 10.
use Prim.Native.Nat.{ℕ, suc, ◌+◌, ◌*◌, ◌≤◌, ◌<◌}
use mathlib.Core.{Path.{◌≡◌, refl, ap, ◌∙◌}, List.{List, [], ◌∷◌, ◌++◌, map}}
use native.Mathlib.{Numerals.{add-one}, Omega.{arith}}
use lib.{ListN.{length, get_or, drop, length-append, drop_of_length-le}, Seq.{drop-cons}}
use Rattle.text.specs.Text.{bytes}
use Rattle.writing.{specs.Decimal.{decimal}, proofs.Signed.{decimal_at_most}}
use Rattle.fields.specs.Refusal.{numbered, refused_text, unless_refused, refusal_bytes}
use Rattle.fields.proofs.LineFields.{fields_end, end_first, end_more, end_none}
use Rattle.std.specs.Prelude.{Result, Ok, Err}
use Rattle.refusal.specs.{declared.Refused.{Refused}}

-- the numbers from index i on, and the byte 10
unfoldable pub numbers_from : List ℕ → ℕ → List ℕ
numbers_from numbers i = fields_end (map decimal (drop i numbers))

pub numbered_parts : (word numbers : List ℕ) → numbered word numbers ≡ word ++ numbers_from numbers 0
unfolding numbered numbers_from
numbered_parts word numbers = end_first word (map decimal numbers)

pub number_next : (numbers : List ℕ) (i : ℕ) → i < length numbers
    → numbers_from numbers i ≡ (44 ∷ decimal (get_or numbers i 0)) ++ numbers_from numbers (i + 1)
unfolding numbers_from
number_next numbers i h = rw (drop-cons numbers i 0 h, add-one) (end_more (decimal (get_or numbers i 0)) (map decimal (drop (suc i) numbers)))

pub numbers_end : (numbers : List ℕ) (i : ℕ) → length numbers ≤ i → numbers_from numbers i ≡ 10 ∷ []
unfolding numbers_from
numbers_end numbers i h = rw (drop_of_length-le numbers h) end_none

-- ---- how long it is

numbers_most : (numbers : List ℕ) → length (fields_end (map decimal numbers)) ≤ 21 * length numbers + 1
numbers_most [] = omega (arith, ap length end_none)
numbers_most (n ∷ numbers) =
    omega (
      arith,
      ap length (end_more (decimal n) (map decimal numbers)),
      length-append (decimal n) (fields_end (map decimal numbers)),
      decimal_at_most n,
      numbers_most numbers,
    )

pub numbered_most : (word numbers : List ℕ) → length (numbered word numbers) ≤ length word + 21 * length numbers + 1
unfolding numbers_from
numbered_most word numbers =
    omega (arith, ap length (numbered_parts word numbers) ∙ length-append word (numbers_from numbers 0), numbers_most numbers)

pub refused_most : (number line column : ℕ) → length (refused_text number line column) ≤ refusal_bytes
unfolding refused_text
refused_most number line column = omega (arith, numbered_most (bytes "refused") (number ∷ line ∷ column ∷ []))

-- ---- an answer that may be a refusal

pub answer_fits : {A : Type 0} (room : ℕ) (j : Result A Refused) (t : List ℕ) → refusal_bytes ≤ room → ((x : A) → j ≡ Ok x → length t ≤ room)
    → length (unless_refused j t) ≤ room
unfolding unless_refused
answer_fits room (Ok n) t enough h = h n refl
answer_fits room (Err why) t enough h = omega (arith, refused_most why.0 why.1 why.2)
