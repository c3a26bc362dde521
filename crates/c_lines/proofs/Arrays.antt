-- The claim about a sheet and an array, from the answer and the numbers of each line; over the question, and so over width and numbers.
use Prim.Native.Nat.{ℕ, ◌+◌, ◌*◌, ◌-◌, ◌≤◌, ◌<◌, ◌^◌}
use mathlib.Core.{Path.{◌≡◌, refl}, Bool.{Bool, true, false, cond}, List.{List, []}}
use native.Mathlib.{Nat.{mul-le-mul}, Omega.{arith}}
use lib.{Dec.{ltb}, IntN.{ℤ}, ListN.{length, get_or}}
use borrow.Author.Tests.{lt-ltb, le-ltb}
use borrow.Rule.Slice.PartMut.{put_mid}
use Rattle.tables.specs.Parts as parts
use Rattle.tables.proofs.{Writing.{put_written_as, part_before}, Filling.{filled_step}}
use Rattle.case.specs.{declared.Case.{Case}, Case.{case_of}, Columns.{columns}}
use Rattle.judgement.{specs.{Limits.{most_lines}, Sheet.{judgement}}, proofs.Accepted.{accepted}}
use Rattle.sheet.specs.Answer.{cases}
use Rattle.c_tell.specs.Room.{Few}
use Rattle.c_line.{specs.{declared.Question.{Question}, Line.{width_of, LineOf}}, proofs.LineParts.{line_length_lem, width_most}}
use Rattle.c_lines.specs.Lines.{lines_by, lines_answer, Filled, ArrayAfter, LinesAnswered}
use Rattle.std.specs.Prelude.{Result, Ok, Err}
use Rattle.refusal.specs.{declared.Refused.{Refused}, Refused.{refuse}}

-- ---- line after line

-- the numbers of the first n lines are written, and nothing past them
abbrev pub FilledTo : Question → List Case → ℕ → List ℤ → List ℤ → Type 0
FilledTo question cs n before after =
    parts.Filled (width_of question) (λ i part. LineOf question (get_or cs i (case_of [])) part) n before after

-- `wide` is the width as code has it
module _ (question : Question) {wide : ℕ} (is : wide ≡ width_of question) where
  -- part i is within the array
  pub part_within : {n i size : ℕ} → width_of question * n ≤ size → i < n → wide * i + wide ≤ size
  part_within {n} {i} h l = rw is (omega (arith, part_before (width_of question) n i l))

  -- one line more
  pub line_filled : (cs : List Case) {i : ℕ} {before t : List ℤ} (part : List ℤ) → FilledTo question cs i before t
      → wide * i + wide ≤ length t → LineOf question (get_or cs i (case_of [])) part
      → FilledTo question cs (i + 1) before (put_mid (wide * i) (wide * i + wide - wide * i) t part)
  line_filled cs {i} {before} {t} part f h l =
      filled_step f (put_written_as wide i t part is h (line_length_lem question (get_or cs i (case_of [])) part l)) l

  -- the numbers of as many lines as a sheet may have are few
  pub numbers_few : {n : ℕ} → n ≤ most_lines → wide * n < 2 ^ 64
  numbers_few h = rw is (omega (arith, mul-le-mul (width_most question) h))

-- ---- the answer

module _ {j : Result ℕ Refused} {question : Question} (s : List ℕ) (t : List ℤ) (judged_is : j ≡ judgement columns s) where
  -- refused by its judgement
  pub answered_refused : {why : Refused} → j ≡ Err why → LinesAnswered question s t t (Err why)
  unfolding ArrayAfter lines_answer lines_by
  answered_refused e = record { answer_is = rw (← judged_is, e); array_is = refl }

  -- an array too short
  pub answered_short : {n wide : ℕ} → wide ≡ width_of question → j ≡ Ok n → length t < wide * n
      → LinesAnswered question s t t (refuse 8 0 0)
  unfolding ArrayAfter lines_answer lines_by
  answered_short {n} is e h = record { answer_is = rw (← judged_is, e, ← is, lt-ltb _ _ h); array_is = refl }

  pub answered_lines : {n wide : ℕ} {u : List ℤ} → wide ≡ width_of question → j ≡ Ok n → wide * n ≤ length t
      → Filled question (cases s) t u → LinesAnswered question s t u (Ok n)
  unfolding ArrayAfter lines_answer lines_by
  answered_lines {n} is e h f = record { answer_is = rw (← judged_is, e, ← is, le-ltb _ _ h); array_is = f }

-- ---- the count has 64 signed bits

pub lines_few : {question : Question} {s : List ℕ} {before after : List ℤ} {a : Result ℕ Refused} → LinesAnswered question s before after a → Few a
unfolding lines_answer lines_by Few
lines_few {question} {s} {before} h = rw h.answer_is (go (judgement columns s) refl)
  where
    go : (j : Result ℕ Refused) → judgement columns s ≡ j → Few (lines_by (width_of question) (length before) j)
    go (Err why) e = tt
    go (Ok n) e = room (ltb (length before) (width_of question * n))
      where
        room : (b : Bool) → Few (cond b (refuse 8 0 0) (Ok n))
        room true = tt
        room false = omega (arith, (accepted columns s n e).most)
