-- What the program `verdict` prints. §3.3: "prints the header shown, then each row's station, season, verdict (safe, unsafe or undecided)
-- and kcmil. A refused sheet prints only `refused,` then number, line and column with commas. Each printed line ends with one byte 10."
use Rattle.std.specs.Prelude.{ℕ, ◌≤◌, ◌<◌}
use mathlib.Core.{Path.{◌≡◌}, List.{List, [], ◌∷◌}}
use Rattle.std.specs.Prelude.{length, get_or, take, drop}
use Rattle.text.specs.Text.{bytes}
use Rattle.writing.specs.{Decimal.{decimal, signed}, Text.{parted, text_of}}
use Rattle.row.specs.{declared.Row.{Row}, Row.{numbers}}
use Rattle.row_text.specs.{Verdict.{word}, Room.{text_room}}
use Rattle.case.specs.declared.Case.{Case}
use Rattle.claims.specs.{Words.{BreaksNone, Breaks, case_at}, Demands.{OwnRow}}

-- the lines stand in the first r bytes of a buffer, each with its byte 10, and its other bytes are as they were
pub record Printed (lines : List (List ℕ)) (before after : List ℕ) (r : ℕ) : Type 0 where
  pub text : take r after ≡ text_of lines
  pub rest : drop r after ≡ drop r before

-- of value line i: "station, season, verdict (safe, unsafe or undecided) and kcmil", of its row
pub record RowPrinted (c : Case) (line : List ℕ) : Type 0 where
  pub r : Row
  pub own_row : OwnRow c (numbers r) 0
  pub is : line ≡ parted (signed r.station ∷ signed r.season ∷ word r.verdict ∷ signed r.size ∷ [])

pub data VerdictOutcome (s before after : List ℕ) (r : ℕ) : Type 0 where
  rows : (n : ℕ) (lines : List (List ℕ)) → text_room ≤ length before → BreaksNone s n → length lines ≡ n
      → ((i : ℕ) → i < n → RowPrinted (case_at s i) (get_or lines i []))
      → Printed (bytes "station,season,verdict,kcmil" ∷ lines) before after r → VerdictOutcome s before after r
  refused : (number line column : ℕ) → text_room ≤ length before → Breaks s number line column
      → Printed (parted (bytes "refused" ∷ decimal number ∷ decimal line ∷ decimal column ∷ []) ∷ []) before after r
      → VerdictOutcome s before after r
  short : length before < text_room → r ≡ 0 → after ≡ before → VerdictOutcome s before after r
