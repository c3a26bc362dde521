-- `header::read_header` meets its contract: the reading of proofs/HeaderReading.antt.
use Rattle.std.proofs.Common.{◌≡◌, ◌+◌, ◌-◌, ◌<◌, Err, Some, refl, sym, ◌∙◌, [], length, take, arith}
use Rattle.std.proofs.lemmas.Grind.{common_steps}
use lib.ListN.{set}
use Rattle.text.{specs.Text.{fields_of}, proofs.FieldTurns.{part_length, field_first, field_last, field_next}}
use Rattle.case.{specs.Parts.{form_of}, proofs.Findings.{form_most}}
use Rattle.header.specs.Parts.{found_name}
use Rattle.header.proofs.HeaderReading.{HeaderAt, OrderAt, turn_start, header_unknown, header_within, header_surplus}
use Rattle.header.proofs.HeaderReading.{header_room, header_again, header_step, order_step, header_few, header_refused, header_end}
use Rattle.header.proofs.read_header.Goals as goal
use Rattle.header.proofs.read_header.Goals.{In_ok-k, Else-at-k-ne0, Then-rest-e}

pub loop-i-init : goal.loop-i-init
loop-i-init c = rw c.requires.at_value (turn_start _ _ _ c.requires.order_len)

pub slice_bounds-name_of-end : goal.slice_bounds-name_of-end
slice_bounds-name_of-end c = part_length 44 _ _ c.find-e.ensures

pub returns-in_err-k : goal.returns-in_err-k
returns-in_err-k c =
    let a = c.loop-i.invariant in
    let unknown = c.in_err-k.ensures.ok_part in
    let column = rw unknown at c.in_err-k.ensures.value in
    let refused : c.from_residual.result ≡ Err (c.loop-i.i + 1) = grind (arith, common_steps, column) in
    rw refused (header_refused a.header a.named (header_unknown a.header (field_first _ _ c.find-e.ensures) (sym c.name_of.ensures ∙ unknown)))

-- the name that was found
found_is : (c : In_ok-k) → found_name (form_of c.args.form) (take c.find-e.result c.loop-i.rest.now) ≡ Some c.in_ok-k.k
found_is c = sym c.name_of.ensures ∙ c.in_ok-k.ensures.ok_part

within : (c : In_ok-k) → c.in_ok-k.k < length (form_of c.args.form)
within c = header_within c.loop-i.invariant.header (field_first _ _ c.find-e.ensures) (found_is c)

pub offset_bounds-at-k : goal.offset_bounds-at-k
offset_bounds-at-k c = omega (arith, within (goal.at.offset_bounds-at-k c).In_ok-k, form_most c.args.form)

pub bounds-at-k : goal.bounds-at-k
bounds-at-k c = omega (arith, within (goal.at.bounds-at-k c).In_ok-k, c.loop-i.invariant.header.count)

pub returns-then-at-k-ne0 : goal.returns-then-at-k-ne0
returns-then-at-k-ne0 c =
    let a = c.loop-i.invariant in
    header_refused a.header a.named
    (header_again a.header (field_first _ _ c.find-e.ensures) (found_is (goal.at.returns-then-at-k-ne0 c).In_ok-k) c.if-at-k-ne0.true)

pub offset_bounds-at-k-in-loop-i : goal.offset_bounds-at-k-in-loop-i
offset_bounds-at-k-in-loop-i c = omega (arith, within (goal.at.offset_bounds-at-k-in-loop-i c).In_ok-k, form_most c.args.form)

pub bounds-at-k-in-loop-i : goal.bounds-at-k-in-loop-i
bounds-at-k-in-loop-i c = omega (arith, within (goal.at.bounds-at-k-in-loop-i c).In_ok-k, c.loop-i.invariant.header.count)

-- the names of the columns after it
named : (c : Else-at-k-ne0)
    → OrderAt (form_of c.args.form) (set c.loop-i.at c.in_ok-k.k (c.loop-i.i + 1)) (set c.loop-i.order c.loop-i.i c.in_ok-k.k) (c.loop-i.i + 1 + 1)
named c =
    let a = c.loop-i.invariant in
    let found = sym c.name_of.ensures ∙ c.in_ok-k.ensures.ok_part in
    let next = field_first _ _ c.find-e.ensures in
    let place : c.loop-i.i + 1 - 1 ≡ c.loop-i.i = omega arith in
    rw place at (order_step c.in_ok-k.k a.header a.named (header_within a.header next found) (header_room a.header next found c.if-at-k-ne0.false) c.if-at-k-ne0.false)

-- the last name
stepped : (c : Then-rest-e)
    → HeaderAt (form_of c.args.form) (fields_of c.args.line.now) (set c.loop-i.at c.in_ok-k.k (c.loop-i.i + 1)) [] (c.loop-i.i + 1 + 1)
stepped c =
    header_step c.loop-i.invariant.header (field_last _ _ c.find-e.ensures c.if-rest-e.true)
    (sym c.name_of.ensures ∙ c.in_ok-k.ensures.ok_part) c.if-at-k-ne0.false

pub returns-then-i-n : goal.returns-then-i-n
returns-then-i-n c =
    let h = stepped (goal.at.returns-then-i-n c).Then-rest-e in
    let column : c.loop-i.i + 1 + 1 ≡ c.loop-i.i + 2 = omega arith in
    rw column at (header_refused h (named (goal.at.returns-then-i-n c).Else-at-k-ne0) (header_few h (omega (arith, c.name_count-n.ensures))))

pub returns-else-i-n : goal.returns-else-i-n
returns-else-i-n c =
    header_end (stepped (goal.at.returns-else-i-n c).Then-rest-e) (named (goal.at.returns-else-i-n c).Else-at-k-ne0)
    (omega (arith, c.name_count-n.ensures))

pub loop-i-preserved : goal.loop-i-preserved
loop-i-preserved c =
    let a = c.loop-i.invariant in
    record {
      header = header_step a.header (field_next _ _ c.find-e.ensures c.if-rest-e.false) (found_is (goal.at.loop-i-preserved c).In_ok-k) c.if-at-k-ne0.false;
      named = named (goal.at.loop-i-preserved c).Else-at-k-ne0;
      short = omega (arith, a.short);
    }

pub returns : goal.returns
returns c =
    let a = c.loop-i.invariant in
    let column : c.loop-i.i + 1 ≡ c.name_count-n.result + 1 = omega arith in
    rw column at (header_refused a.header a.named (header_surplus a.header (field_first c.loop-i.rest.now _ refl) (omega (arith, c.name_count-n.ensures))))
