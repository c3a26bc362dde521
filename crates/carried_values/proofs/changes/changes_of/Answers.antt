-- `changes_of` goes line by line: the search of proofs/LineChanges.antt.
use Prim.Native.Nat.{◌+◌, ◌*◌, ◌-◌, ◌≤◌, ◌<◌}
use mathlib.Core.{Path.{◌≡◌, sym, ap, ◌∙◌}, List.{[]}}
use native.Mathlib.Omega.{arith}
use borrow.Author.Rules.{rules}
use borrow.Rule.Slice.PartMut.{mid_len}
use lib.ListN.{length, take, drop, get_or}
use Rattle.refusal.proofs.Passed.{passed_on}
use Rattle.tables.{specs.Parts.{parts_of}, proofs.Parts.{parts_length, parts_at}}
use Rattle.case.specs.Columns.{name_count}
use Rattle.carried_values.specs.Changes.{line_change}
use Rattle.carried_values.proofs.LineChanges.{changing_start, changing_refused, changing_step, changing_end}
use Rattle.carried_values.proofs.changes.changes_of.Goals as goal
use Rattle.carried_values.proofs.changes.changes_of.Goals.{After-line_change, In-loop-i}
use Rattle.std.specs.Prelude.{Ok}

pub loop-i-init : goal.loop-i-init
loop-i-init c = (changing_start _, search rules)

-- line i is within the values
within : (c : In-loop-i) → name_count * c.loop-i.i + name_count ≤ length c.args.values.now
within c = omega (arith, c.requires.n_in_bounds, c.loop-i-test.true)

line_there : (c : In-loop-i)
    → c.loop-i.i < length (parts_of name_count c.args.n c.args.values.now)
line_there c = omega (arith, c.loop-i-test.true, parts_length name_count c.args.n c.args.values.now)

-- what is found of line i
change_is : (c : After-line_change)
    → c.line_change.result
    ≡ line_change (c.loop-i.i + 2) (Ok tt)
    (get_or (parts_of name_count c.args.n c.args.values.now)
    c.loop-i.i [])
change_is c =
    let k = c.loop-i.i in
    let v = c.args.values.now in
    let w : name_count * k + name_count - name_count * k ≡ name_count = omega arith in
    c.line_change.ensures ∙ ap (λ m. line_change (k + 2) (Ok tt) (take m (drop (name_count * k) v))) w
    ∙ ap (line_change (k + 2) (Ok tt)) (sym (parts_at name_count c.args.n k v c.loop-i-test.true))

pub overflow_mul-a : goal.overflow_mul-a
overflow_mul-a c = omega (arith, within (goal.at.overflow_mul-a c).In-loop-i)

pub overflow_add-b : goal.overflow_add-b
overflow_add-b c = omega (arith, within (goal.at.overflow_add-b c).In-loop-i)

pub offset_bounds-values-a : goal.offset_bounds-values-a
offset_bounds-values-a c = omega (arith, within (goal.at.offset_bounds-values-a c).In-loop-i)

pub slice_bounds-line_change-end : goal.slice_bounds-line_change-end
slice_bounds-line_change-end c = within (goal.at.slice_bounds-line_change-end c).In-loop-i

pub line_change-requires : goal.line_change-requires
line_change-requires c = mid_len _ _ c.args.values.now (within (goal.at.line_change-requires c).In-loop-i) ∙ omega arith

pub returns-in_err-line_change : goal.returns-in_err-line_change
returns-in_err-line_change c =
    rw (passed_on _ c.from_residual.ensures.1)
    (changing_refused c.loop-i.invariant.0 (line_there (goal.at.returns-in_err-line_change c).In-loop-i) (change_is (goal.at.returns-in_err-line_change c).After-line_change) c.in_err-line_change.was)

pub loop-i-preserved : goal.loop-i-preserved
loop-i-preserved c =
    (changing_step c.loop-i.invariant.0 (line_there (goal.at.loop-i-preserved c).In-loop-i) (change_is (goal.at.loop-i-preserved c).After-line_change) c.in_ok-line_change.was, search rules)

pub returns : goal.returns
returns c =
    changing_end c.loop-i.invariant.0 (omega (arith, c.loop-i-test.false, parts_length name_count c.args.n c.args.values.now))
