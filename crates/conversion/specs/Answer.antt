-- What a sheet carried over is, or why it is refused. §8.2, §8.3.
use Rattle.std.specs.Prelude.{ℕ}
use mathlib.Core.{Path.{◌≡◌}, Bool.{cond}, List.{List, ◌++◌, map}}
use lib.{Dec.{ltb}, ListN.{length, drop}}
use Rattle.case.specs.{declared.Form.{Form}, Parts.{form_of}}
use Rattle.case.specs.{Counted.{refused_or}}
use Rattle.judgement.specs.Sheet.{judgement}
use Rattle.carried_values.specs.{Values.{other, carried, cases_in}, Changes.{changes}}
use Rattle.conversion.specs.Sheet.{sheet_of}
use Rattle.std.specs.Prelude.{Result, Ok, Err}
use Rattle.refusal.specs.{declared.Refused.{Refused}, Refused.{refuse}}

-- ---- the answer, for a buffer of this length

-- the text of a sheet carried over
unfoldable pub carried_text : Form → List ℕ → List ℕ
carried_text form s = sheet_of (form_of form) (map (carried form) (cases_in (form_of (other form)) s))

-- "The answer is the count of bytes written"; "after all lines 8, 0, 0 either way when the output buffer is too short"
unfoldable pub room_answer : List ℕ → ℕ → Result ℕ Refused
room_answer text room = cond (ltb room (length text)) (refuse 8 0 0) (Ok (length text))

-- "The source sheet passes all checks of its own form first, save 8", then the lines on the way back, then 8
unfoldable pub answer : Form → List ℕ → ℕ → Result ℕ Refused
answer form s room =
    refused_or (judgement (form_of (other form)) s)
    (refused_or (changes form (cases_in (form_of (other form)) s)) (room_answer (carried_text form s) room))

-- "bytes past them keep what they held"; "any refusal leaving it untouched"
unfoldable pub buffer_after : Form → List ℕ → List ℕ → Result ℕ Refused → List ℕ
buffer_after form s before (Ok count) = carried_text form s ++ drop count before
buffer_after form s before (Err why) = before

-- the answer and what it leaves in the buffer. Two wrong programs: one that writes before it refuses breaks `buffer_is`; one that tests the
-- counts before the times breaks `answer_is`.
pub record Answered (form : Form) (s before after : List ℕ) (r : Result ℕ Refused) : Type 0 where
  pub answer_is : r ≡ answer form s (length before)
  pub buffer_is : after ≡ buffer_after form s before r
