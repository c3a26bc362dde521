-- What the values of a sheet are after `read`: those of its value lines, each within its bounds, with room for them all.
use Prim.Native.Nat.{ℕ, ◌*◌, ◌≤◌}
use mathlib.Core.{Path.{◌≡◌, sym, ◌∙◌}, List.{List}}
use native.Mathlib.Omega.{arith}
use lib.ListN.{length, length-drop}
use Rattle.text.specs.Text.{lines_of}
use Rattle.case.specs.{declared.Form.TheVariants.{Present}, Columns.{columns, name_count, name_count_lem}, Parts.{form_of}}
use Rattle.judgement.specs.Limits.{most_lines}
use Rattle.judgement.specs.{Sheet.{value_lines, judgement}, Read.{Room, Read}}
use Rattle.judgement.proofs.{Accepted.{accepted}, Whole.{most_room}}
use Rattle.table_rows.specs.Rows.{stored_cases, StoredBounds}
use Rattle.sheet.specs.Answer.{cases}
use Rattle.sheet.proofs.StoredCases.{stored_cases_lem, stored_bounds}
use Rattle.std.specs.Prelude.{Result, Ok}
use Rattle.refusal.specs.{declared.Refused.{Refused}}

-- n value lines of a sheet stand in a store
pub record StoredLines (s : List ℕ) (n : ℕ) (values : List ℕ) : Type 0 where
  pub most : n ≤ most_lines
  pub room : name_count * n ≤ length values
  pub bounds : StoredBounds values n
  pub cases_are : stored_cases values n ≡ cases s

module _ {s before after : List ℕ} {r : Result ℕ Refused} (read : Read (form_of Present) s before after r) where
  pub judged_is : r ≡ judgement columns s
  unfolding form_of
  judged_is = read.answer_is

  -- in a store with room for the lines of the sheet
  pub stored_within : {n : ℕ} → Room (form_of Present) (lines_of s) before → r ≡ Ok n → StoredLines s n after
  unfolding form_of value_lines
  stored_within {n} h e =
      let a = accepted columns s n (sym judged_is ∙ e) in
      let few : n ≤ length (lines_of s) = omega (arith, a.count, length-drop 1 (lines_of s)) in
      let fits : length columns * n ≤ length before = h.enough few a.most in
      record {
        most = a.most;
        room = omega (arith, read.size, rw name_count_lem at fits);
        bounds = stored_bounds after a (read.stored n e);
        cases_are = stored_cases_lem after a (read.stored n e);
      }

  -- in a store for as many value lines as a sheet may have
  pub stored_lines : {n : ℕ} → length before ≡ name_count * most_lines → r ≡ Ok n → StoredLines s n after
  unfolding form_of
  stored_lines h e =
      let room : length columns * most_lines ≤ length before = omega (arith, name_count_lem, h) in
      stored_within (most_room before room) e
