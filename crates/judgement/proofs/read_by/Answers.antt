-- `judgement::read_by` meets its contract, by the laws of proofs/Whole.antt.
use mathlib.Core.{Path.{◌≡◌, sym, ap, ◌∙◌}, Bool.{false}}
use lib.ListN.{length}
use Rattle.text.proofs.FieldTurns.{part_length}
use Rattle.case.specs.Parts.{form_of}
use Rattle.header.proofs.HeaderReading.{no_columns_count}
use Rattle.judgement.specs.{Limits.{today}, Sheet.{bad_text}}
use Rattle.judgement.proofs.{Whole.{read_text, read_names, read_values, room_left}}
use Rattle.judgement.proofs.read_by.Goals as goal
use Rattle.judgement.proofs.read_by.Goals.{After-read_header}

pub returns-then-bad_text : goal.returns-then-bad_text
returns-then-bad_text c = read_text _ _ _ (sym c.bad_text.ensures ∙ c.if-bad_text.true)

pub slice_bounds-read_header-end : goal.slice_bounds-read_header-end
slice_bounds-read_header-end c = part_length 10 _ _ c.find-e.ensures

text : (h : After-read_header) → bad_text today h.args.s.now ≡ false
text h = sym h.bad_text.ensures ∙ h.if-bad_text.false

-- the lengths of both tables of columns stay
at_kept : (h : After-read_header) → length h.read_header.new.at ≡ length h.args.at.now
at_kept h = h.read_header.ensures.columns_all ∙ sym (ap length h.requires.at_value ∙ no_columns_count (form_of h.args.form))

order_kept : (h : After-read_header) → length h.read_header.new.order ≡ length h.args.order.now
order_kept h = h.read_header.ensures.order_all ∙ sym h.requires.order_len

pub shape_of-at-in-Err : goal.shape_of-at-in-Err
shape_of-at-in-Err c = at_kept (goal.at.shape_of-at-in-Err c).After-read_header

pub shape_of-order-in-Err : goal.shape_of-order-in-Err
shape_of-order-in-Err c = order_kept (goal.at.shape_of-order-in-Err c).After-read_header

pub returns-in-Err : goal.returns-in-Err
returns-in-Err c =
    read_names _ _ (text (goal.at.returns-in-Err c).After-read_header) c.find-e.ensures c.read_header.ensures _ c.in-Err.is

pub judge_values-requires : goal.judge_values-requires
judge_values-requires c =
    let right = c.in-Ok.is in
    record { placed = c.read_header.ensures.placed right; ordered = c.read_header.ensures.ordered right; room = room_left _ _ (text (goal.at.judge_values-requires c).After-read_header) c.find-e.ensures c.skip-next.ensures c.requires.room }

pub shape_of-at-in-Ok : goal.shape_of-at-in-Ok
shape_of-at-in-Ok c = at_kept (goal.at.shape_of-at-in-Ok c).After-read_header

pub shape_of-order-in-Ok : goal.shape_of-order-in-Ok
shape_of-order-in-Ok c = order_kept (goal.at.shape_of-order-in-Ok c).After-read_header

pub shape_of-values : goal.shape_of-values
shape_of-values c = c.judge_values.ensures.size

pub returns-in-Ok : goal.returns-in-Ok
returns-in-Ok c =
    read_values _ _ (text (goal.at.returns-in-Ok c).After-read_header) c.find-e.ensures c.read_header.ensures _ c.in-Ok.is
    c.skip-next.ensures c.judge_values.ensures
