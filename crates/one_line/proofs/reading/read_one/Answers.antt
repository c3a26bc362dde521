-- `read_one` tests the text, reads the names and then the value line: proofs/OneLines.antt.
use mathlib.Core.{Path.{◌≡◌, sym, ◌∙◌}, Bool.{false}}
use Rattle.text.proofs.FieldTurns.{part_length}
use Rattle.case.{specs.{Columns.{name_count_lem}, Parts.{form_of}}, proofs.Order.{distinct}}
use Rattle.header.specs.Header.{no_columns}
use Rattle.judgement.specs.{Limits.{today}, Sheet.{bad_text}}
use Rattle.one_line.proofs.{OneLines.{wrong_text, wrong_names, right_names}}
use Rattle.one_line.proofs.reading.read_one.Goals as goal
use Rattle.one_line.proofs.reading.read_one.Goals.{After-read_header}

pub returns-then-bad_text : goal.returns-then-bad_text
returns-then-bad_text c =
    wrong_text c.args.s.now c.requires (sym c.bad_text.ensures ∙ c.if-bad_text.true)

pub slice_bounds-read_header-end : goal.slice_bounds-read_header-end
slice_bounds-read_header-end c = part_length 10 _ _ c.find-e.ensures

pub read_header-requires : goal.read_header-requires
unfolding form_of no_columns
read_header-requires c = record { at_value = rw name_count_lem; order_len = sym name_count_lem }

text : (h : After-read_header) → bad_text today h.args.s.now ≡ false
text h = sym h.bad_text.ensures ∙ h.if-bad_text.false

pub returns-in-Err : goal.returns-in-Err
unfolding form_of
returns-in-Err c =
    wrong_names c.args.s.now (text (goal.at.returns-in-Err c).After-read_header) c.find-e.ensures c.read_header.ensures c.requires c.in-Err.is

pub slice_bounds-read_value_line-end-in-Ok : goal.slice_bounds-read_value_line-end-in-Ok
unfolding form_of
slice_bounds-read_value_line-end-in-Ok c = sym (c.read_header.ensures.order_all ∙ name_count_lem)

pub read_value_line-requires : goal.read_value_line-requires
unfolding form_of
read_value_line-requires c =
    record { distinct = rw (← name_count_lem) (distinct (c.read_header.ensures.ordered c.in-Ok.is)); values_len = c.requires }

pub returns-in-Ok : goal.returns-in-Ok
unfolding form_of
returns-in-Ok c =
    right_names c.args.s.now (text (goal.at.returns-in-Ok c).After-read_header) c.find-e.ensures c.read_header.ensures
    c.in-Ok.is c.skip-next.ensures c.read_value_line.ensures
