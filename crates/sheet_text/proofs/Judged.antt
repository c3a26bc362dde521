-- The answer in a table with room for the most rows is the judgement of the sheet.
use Prim.Native.Nat.{ℕ, ◌*◌, ◌≤◌}
use mathlib.Core.{Path.{◌≡◌, refl, sym, ap, ◌∙◌}, List.{List}}
use native.Mathlib.Omega.{arith}
use lib.ListN.{length, length-map}
use borrow.Author.Tests.{le-ltb}
use Rattle.text.specs.Text.{fields_of}
use Rattle.case.specs.Columns.{columns}
use Rattle.header.specs.Header.{columns_of}
use Rattle.line.specs.Line.{line_case}
use Rattle.row.specs.Row.{row_length}
use Rattle.judgement.specs.{Limits.{most_lines}, Sheet.{names, value_lines, judgement}}
use Rattle.judgement.proofs.Accepted.{accepted}
use Rattle.sheet.specs.{declared.Answer.{Answer, TheVariants.{Rows, Refused}}, Answer.{cases, answer_by, answer}}
use Rattle.std.specs.Prelude.{Result, Ok, Err}
use Rattle.refusal.specs.{declared.Refused.{Refused as Refusal}, Refused.{refuse}}

-- the judgement that an answer reports
abbrev pub told : Answer → Result ℕ Refusal
told (Rows count) = Ok count
told (Refused number line column) = refuse number line column

module _ (s : List ℕ) (room : ℕ) (enough : row_length * most_lines ≤ room) where
  pub answer_told : told (answer s room) ≡ judgement columns s
  unfolding answer answer_by
  answer_told = go (judgement columns s) refl
    where
      go : (j : Result ℕ Refusal) → judgement columns s ≡ j → told (answer_by room j) ≡ j
      go (Err why) e = refl
      go (Ok n) e = rw (le-ltb room (row_length * n) (omega (arith, (accepted columns s n e).most)))

  pub rows_judged : {a : Answer} {n : ℕ} → a ≡ answer s room → a ≡ Rows n → judgement columns s ≡ Ok n
  rows_judged e q = sym answer_told ∙ ap told (sym e ∙ q)

  pub refusal_judged : {a : Answer} {number line column : ℕ} → a ≡ answer s room → a ≡ Refused number line column
      → judgement columns s ≡ refuse number line column
  refusal_judged e q = sym answer_told ∙ ap told (sym e ∙ q)

-- an accepted sheet has as many cases as lines, and no more than the limit
module _ (s : List ℕ) (n : ℕ) (e : judgement columns s ≡ Ok n) where
  pub case_count : length (cases s) ≡ n
  unfolding cases
  case_count =
      length-map (value_lines s) (λ line. line_case (columns_of columns (names s)) (fields_of line)) ∙ sym (accepted columns s n e).count

  pub count_within : n ≤ most_lines
  count_within = (accepted columns s n e).most
