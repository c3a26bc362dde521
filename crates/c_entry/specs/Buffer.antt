-- The buffer after a sheet: one claim over every sheet, every buffer and every row. §11.2: "The host hands over the sheet's bytes and a
-- byte buffer; rows come back as eight-byte little-endian signed numbers. The answer is a signed number, the count of rows, or the
-- refusal's number made negative with the buffer untouched; bytes past the last row keep what they held. A buffer short of 160 bytes a line
-- is refused with 8."
use Rattle.std.specs.Prelude.{ℕ, ◌/◌}
use mathlib.Core.{Path.{◌≡◌}, List.{List}}
use lib.{IntN.{ℤ}, ListN.{length}}
use Rattle.sheet.specs.{declared.Answer.{Answer}, Answer.{answer, cases}}
use Rattle.sheet.specs.declared.Answer.TheVariants as sheet
use Rattle.c_bytes.specs.Bytes.{number_bytes}
use Rattle.c_tell.specs.{Answer.{signed_answer}, Place.{place_after}}
use Rattle.c_rows.specs.Rows.{Filled}
use Rattle.std.specs.Prelude.{Result, Ok, Err}
use Rattle.refusal.specs.{declared.Refused.{Refused}, Refused.{refuse}}

-- "with the buffer untouched"
unfoldable pub BufferAfter : List ℕ → List ℕ → List ℕ → Result ℕ Refused → Type 0
BufferAfter s before after (Ok count) = Filled (cases s) before after
BufferAfter s before after (Err why) = after ≡ before

-- a sheet's answer as a count or a refusal
unfoldable pub row_count : Answer → Result ℕ Refused
row_count (sheet.Rows count) = Ok count
row_count (sheet.Refused number line column) = refuse number line column

-- the answer of the sheet's own question for as many numbers as the buffer has room for
unfoldable pub answer_for : List ℕ → List ℕ → Result ℕ Refused
answer_for s buffer = row_count (answer s (length buffer / number_bytes))

-- the answer to a sheet and what it leaves in the buffer
pub record InBytes (s before after : List ℕ) (r : Result ℕ Refused) : Type 0 where
  pub answer_is : r ≡ answer_for s before
  pub buffer_is : BufferAfter s before after r

-- the same with the answer as one number. Two wrong programs: one that writes the most significant byte first breaks `buffer_is`; one that
-- answers the refusal's number as it is breaks `answer_is`.
pub record Answered (s before after : List ℕ) (r : ℤ) : Type 0 where
  pub answer_is : r ≡ signed_answer (answer_for s before)
  pub buffer_is : BufferAfter s before after (answer_for s before)

-- §11.1: line and column of a refusal in a separate place; answer and buffer as without it. Two wrong programs: one that writes column and
-- line breaks `place_is`, and so does one that writes 0 and 0 with rows.
pub record AnsweredAt (s before after place told : List ℕ) (r : ℤ) : Type 0 where
  pub answered : Answered s before after r
  pub place_is : told ≡ place_after (answer_for s before) place
