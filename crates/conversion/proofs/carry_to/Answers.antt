-- `carry_to` reads, looks for what the form cannot say, converts and writes: the laws of proofs/Answers.antt, and those of
-- `carried_values` on sound cases.
use Prim.Native.Nat.{ℕ, ◌*◌, ◌≤◌}
use mathlib.Core.{Path.{◌≡◌, sym, ap, subst, ◌∙◌}, Bool.{true}, List.{List, [], map}}
use native.Mathlib.{Nat.{mul-le-mul_left, mul-le-mul_right}, Omega.{arith}}
use lib.ListN.{length}
use Rattle.refusal.proofs.Passed.{passed_on}
use Rattle.tables.specs.Parts.{parts_of}
use Rattle.std.specs.Prelude.{Option}
use Rattle.writing.{specs.{Put.{WrittenFirst}, Text.{all_lines}}, proofs.Whole.{written_size}}
use Rattle.case.{specs.{declared.Form.{Form}, Columns.{name_count}, Parts.{form_of}}, proofs.Findings.{form_most}}
use Rattle.case.specs.Columns as Columns
use Rattle.header.specs.Header.{columns_of}
use Rattle.judgement.specs.{Limits.{most_lines}, Read.{Stored}}
use Rattle.judgement.{specs.{Sheet.{names, value_lines, judgement}, Accepted.{Accepted}}, proofs.Accepted.{accepted}}
use Rattle.judgement.proofs.StoredLines.{stored_parts}
use Rattle.carried_values.specs.{Values.{other, carried, cases_in}, Changes.{changes}}
use Rattle.carried_values.proofs.SoundCases.{accepted_cases, carried_cases, all_lines_lem}
use Rattle.conversion.specs.{Sheet.{sheet_of}, Answer.{carried_text}}
use Rattle.conversion.proofs.Answers.{answered_source, answered_change, answered_short, answered_written}
use Rattle.conversion.proofs.carry_to.Goals as goal
use Rattle.conversion.proofs.carry_to.Goals.{After-read}
use Rattle.std.specs.Prelude.{Result, Ok}
use Rattle.refusal.specs.{declared.Refused.{Refused}}

-- lines of either form fit a store for as many lines of today's form as a sheet may have
form_room : (form : Form) (n : ℕ) → n ≤ most_lines → length (form_of form) * n ≤ name_count * most_lines
form_room form n h = omega (arith, mul-le-mul_left (length (form_of form)) h, mul-le-mul_right most_lines (form_most form))

pub read-requires : goal.read-requires
read-requires c = form_room _ most_lines (omega arith)

-- ---- the source as it was read

-- the form asked for and its columns, those of the source, and the source
abbrev asked : After-read → Form
asked r = r.args.form

abbrev to : After-read → Columns.Form
to r = form_of (asked r)

abbrev from : After-read → Columns.Form
from r = form_of (other (asked r))

abbrev sheet : After-read → List ℕ
sheet r = r.args.s.now

-- the cases of its lines, and their values as they were stored
abbrev cases : After-read → List (List ℕ)
cases r = cases_in (from r) (sheet r)

abbrev store : After-read → List ℕ
store r = r.read.new.values

judged_is : (r : After-read) → r.read.result ≡ judgement (from r) (sheet r)
judged_is r = r.read.ensures.answer_is ∙ ap (λ f. judgement (form_of f) (sheet r)) r.other_form.ensures

store_count : (r : After-read) → length (store r) ≡ name_count * most_lines
store_count r = r.read.ensures.size

-- n lines
module _ (r : After-read) {n : ℕ} (e : r.read.result ≡ Ok n) where
  lines_accepted : Accepted (from r) (sheet r) n
  lines_accepted = accepted _ _ _ (sym (judged_is r) ∙ e)

  -- a store has room for the lines of either form
  from_room : length (from r) * n ≤ name_count * most_lines
  from_room = form_room (other (asked r)) n lines_accepted.most

  to_room : length (to r) * n ≤ name_count * most_lines
  to_room = form_room (asked r) n lines_accepted.most

  lines_are : parts_of (length (from r)) n (store r) ≡ cases r
  unfolding cases_in
  lines_are =
      stored_parts _ lines_accepted
      (subst (λ f. Stored (form_of f) (columns_of (form_of f) (names (sheet r))) (value_lines (sheet r)) (store r))
      r.other_form.ensures (r.read.ensures.stored _ e))

  change_is : {found : Result (Unit {0}) Refused} → found ≡ changes (asked r) (parts_of (length (from r)) n (store r)) → found ≡ changes (asked r) (cases r)
  change_is f = f ∙ ap (changes _) lines_are

  -- the lines carried over, whose values are l
  module _ (l : List ℕ) (lines : parts_of (length (to r)) n l ≡ map (carried (asked r)) (parts_of (length (from r)) n (store r))) where
    carried_lines : parts_of (length (to r)) n l ≡ map (carried (asked r)) (cases r)
    carried_lines = lines ∙ ap (map (carried (asked r))) lines_are

    -- they can be written
    writable : all_lines (length (to r)) (parts_of (length (to r)) n l) ≡ true
    writable =
        rw carried_lines
        (all_lines_lem (asked r) [] _ (carried_cases (asked r) [] (cases r) (accepted_cases lines_accepted)))

    -- what was written is the carried sheet
    written : {before after : List ℕ} {o : Option ℕ} → WrittenFirst (sheet_of (to r) (parts_of (length (to r)) n l)) before after o
        → WrittenFirst (carried_text (asked r) (sheet r)) before after o
    unfolding carried_text
    written {before} {after} {o} w = subst (λ m. WrittenFirst (sheet_of (to r) m) before after o) carried_lines w

pub slice_bounds-first_change-end : goal.slice_bounds-first_change-end
slice_bounds-first_change-end c = sym (store_count (goal.at.slice_bounds-first_change-end c).After-read)

pub first_change-requires : goal.first_change-requires
first_change-requires c =
    let r = (goal.at.first_change-requires c).After-read in
    record {
      n_in_bounds = omega (arith, from_room r c.in_ok-n.was, store_count r);
      n_le_most_lines = (lines_accepted r c.in_ok-n.was).most;
    }

pub returns-in_err-first_change : goal.returns-in_err-first_change
returns-in_err-first_change c =
    rw (passed_on _ c.from_residual-in_err-first_change.ensures.1)
    (answered_change _ _ _ (judged_is (goal.at.returns-in_err-first_change c).After-read) c.in_ok-n.was (change_is (goal.at.returns-in_err-first_change c).After-read c.in_ok-n.was c.first_change.ensures) c.in_err-first_change.was)

pub slice_bounds-convert-end : goal.slice_bounds-convert-end
slice_bounds-convert-end c = sym (store_count (goal.at.slice_bounds-convert-end c).After-read)

pub convert-requires : goal.convert-requires
convert-requires c =
    let r = (goal.at.convert-requires c).After-read in
    record {
      n_in_bounds = omega (arith, from_room r c.in_ok-n.was, store_count r);
      n_in_bounds_2 = to_room r c.in_ok-n.was;
    }

pub slice_bounds-write_form-end : goal.slice_bounds-write_form-end
slice_bounds-write_form-end c = sym c.convert.ensures.size

pub write_form-requires : goal.write_form-requires
write_form-requires c =
    let r = (goal.at.write_form-requires c).After-read in
    record {
      n_in_bounds = omega (arith, to_room r c.in_ok-n.was, c.convert.ensures.size);
      n_le_most_lines = (lines_accepted r c.in_ok-n.was).most;
      values_value = writable r c.in_ok-n.was _ c.convert.ensures.lines;
    }

pub returns-in_err-n : goal.returns-in_err-n
returns-in_err-n c = rw (passed_on _ c.from_residual.ensures.1) (answered_source _ _ _ (judged_is (goal.at.returns-in_err-n c).After-read) c.in_err-n.was)

pub shape_of-buffer-in-None : goal.shape_of-buffer-in-None
shape_of-buffer-in-None c = written_size c.write_form.ensures

pub returns-in-None : goal.returns-in-None
returns-in-None c =
    answered_short _ _ _ (judged_is (goal.at.returns-in-None c).After-read) c.in_ok-n.was (change_is (goal.at.returns-in-None c).After-read c.in_ok-n.was c.first_change.ensures) c.in_ok-first_change.was
    (written (goal.at.returns-in-None c).After-read c.in_ok-n.was _ c.convert.ensures.lines c.write_form.ensures) c.in-None.is

pub shape_of-buffer-in-Some : goal.shape_of-buffer-in-Some
shape_of-buffer-in-Some c = written_size c.write_form.ensures

pub returns-in-Some : goal.returns-in-Some
returns-in-Some c =
    answered_written _ _ _ (judged_is (goal.at.returns-in-Some c).After-read) c.in_ok-n.was (change_is (goal.at.returns-in-Some c).After-read c.in_ok-n.was c.first_change.ensures) c.in_ok-first_change.was
    (written (goal.at.returns-in-Some c).After-read c.in_ok-n.was _ c.convert.ensures.lines c.write_form.ensures) c.in-Some.is
