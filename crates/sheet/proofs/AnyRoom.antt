-- The sheet's own question answered in a table with room for the greatest number of rows, and what it would answer in another table.
use Prim.Native.Nat.{ℕ, ◌*◌, ◌≤◌, ◌<◌}
use mathlib.Core.{Path.{◌≡◌, refl, ap, ◌∙◌}, List.{List}}
use native.Mathlib.Omega.{arith}
use borrow.Author.Tests.{lt-ltb, le-ltb}
use Rattle.text.proofs.Clash.{clash}
use Rattle.case.specs.Columns.{columns}
use Rattle.row.specs.Row.{row_length}
use Rattle.judgement.{specs.{Limits.{most_lines}, Sheet.{judgement}}, proofs.Accepted.{accepted}}
use Rattle.sheet.specs.{declared.Answer.TheVariants.{Rows, Refused}, Answer.{table_refused, answer_by, answer}}
use Rattle.std.specs.Prelude.{Result, Ok, Err}
use Rattle.refusal.specs.{declared.Refused.{Refused as Refusal}, Refused.{refuse}}

-- the judgement of a sheet names at most the limit of lines
within : (s : List ℕ) (n : ℕ) → judgement columns s ≡ Ok n → n ≤ most_lines
within s n e = (accepted columns s n e).most

module _ (s : List ℕ) (whole : ℕ) (enough : row_length * most_lines ≤ whole) where
  -- in such a table a sheet is never refused for its length
  by_judgement : {j : Result ℕ Refusal} → judgement columns s ≡ j → (n : ℕ) → j ≡ Ok n → answer s whole ≡ Rows n
  unfolding answer answer_by
  by_judgement {j} e n q = rw (e, q, le-ltb whole (row_length * n) (omega (arith, within s n (e ∙ q))))

  by_refusal : (number line column : ℕ) → judgement columns s ≡ refuse number line column
      → answer s whole ≡ Refused number line column
  unfolding answer answer_by
  by_refusal number line column e = rw e

  -- a refusal there is the refusal in every table
  pub refused_anywhere : {number line column : ℕ} (room : ℕ) → Refused number line column ≡ answer s whole
      → Refused number line column ≡ answer s room
  unfolding answer answer_by
  refused_anywhere {number} {line} {column} room e = go (judgement columns s) refl e
    where
      go : (j : Result ℕ Refusal) → judgement columns s ≡ j → Refused number line column ≡ answer s whole
          → Refused number line column ≡ answer_by room j
      go (Err why) q h = h ∙ rw q
      go (Ok n) q h =
          let r : answer s whole ≡ Rows n = by_judgement q n refl in
          clash cc

  -- with a count of rows there, the table decides: too short, or the same count
  module _ {n : ℕ} (e : Rows n ≡ answer s whole) where
    lines : judgement columns s ≡ Ok n
    lines = go (judgement columns s) refl
      where
        go : (j : Result ℕ Refusal) → judgement columns s ≡ j → j ≡ Ok n
        go (Err why) q =
            let r : answer s whole ≡ Refused why.0 why.1 why.2 = by_refusal why.0 why.1 why.2 q in
            clash cc
        go (Ok m) q = let r : answer s whole ≡ Rows m = by_judgement q m refl in let z : m ≡ n = cc in ap Ok z

    pub count_most : n ≤ most_lines
    count_most = within s n lines

    pub short_there : (room : ℕ) → room < row_length * n → Refused 8 0 0 ≡ answer s room
    unfolding answer answer_by table_refused
    short_there room h = rw (lines, lt-ltb room (row_length * n) h)

    pub rows_there : (room : ℕ) → row_length * n ≤ room → Rows n ≡ answer s room
    unfolding answer answer_by
    rows_there room h = rw (lines, le-ltb room (row_length * n) h)
