-- `judgement::pass::check_lines` meets its contract: the pass of proofs/Passing.antt.
use Prim.Native.Nat.{◌+◌, ◌*◌, ◌≤◌, ◌<◌}
use mathlib.Core.Path.{refl, ◌∙◌}
use native.Mathlib.Omega.{arith}
use borrow.Author.Rules.{rules}
use lib.ListN.{length}
use Rattle.refusal.proofs.Passed.{passed_on}
use Rattle.text.proofs.{FieldTurns.{part_length}, LineTurns.{line_shorter}}
use Rattle.case.{proofs.Findings.{rods_place_lem}}
use Rattle.line_finding.{proofs.Keys.{form_keyed, at_most_more}}
use Rattle.judgement.specs.Limits.{most_lines}
use Rattle.judgement.proofs.LineJudged.{sound_line}
use Rattle.judgement.proofs.Passing.{passing_start, passing_room, passing_store, stored_value, stored_first}
use Rattle.judgement.proofs.{Passing.{passing_refused, passing_step, passing_end}}
use Rattle.judgement.proofs.pass.check_lines.Goals as goal
use Rattle.judgement.proofs.pass.check_lines.Goals.{In-loop-rest, In_ok-refusal}

pub loop-rest-init : goal.loop-rest-init
loop-rest-init c = (passing_start _ _ _ _ _ (search rules), record { above = λ j l. absurd (omega arith) })

pub slice_bounds-store_line-end : goal.slice_bounds-store_line-end
slice_bounds-store_line-end c = part_length 10 _ _ c.find-e.ensures

-- there is a place for the line's key and for its values
room : (c : In-loop-rest) → c.loop-rest.n < most_lines
room c = passing_room c.loop-rest.invariant.0 c.loop-rest-test.true

pub store_line-f-requires : goal.store_line-f-requires
store_line-f-requires c =
    let p = c.requires in
    let a = c.loop-rest.invariant.0 in record { placed = p.placed; ordered = p.ordered; n_in_bounds = omega (arith, room (goal.at.store_line-f-requires c).In-loop-rest, a.keys_count); at_most = c.loop-rest.invariant.1; form_in_bounds = passing_store a refl p.count_value p.count_in_bounds c.loop-rest-test.true }

pub overflow_add-n : goal.overflow_add-n
overflow_add-n c = omega (arith, room (goal.at.overflow_add-n c).In-loop-rest)

pub shape_of-values-in_err-refusal : goal.shape_of-values-in_err-refusal
shape_of-values-in_err-refusal c = c.store_line-f.ensures.written.size ∙ c.loop-rest.invariant.0.size

pub returns-in_err-refusal : goal.returns-in_err-refusal
returns-in_err-refusal c =
    rw (passed_on _ c.from_residual.ensures.1)
    (passing_refused _ (form_keyed c.args.form) c.loop-rest.invariant.0 c.loop-rest-test.true
    c.find-e.ensures c.store_line-f.ensures
    c.refusal.ensures c.in_err-refusal.was)

-- its values are within the store
within : (c : In_ok-refusal)
    → length c.args.at.now * c.loop-rest.n + length c.args.at.now
    ≤ length c.store_line-f.new.values
within c =
    omega (
      arith,
      c.store_line-f.ensures.written.size,
      passing_store c.loop-rest.invariant.0
          c.requires.placed.count c.requires.count_value c.requires.count_in_bounds c.loop-rest-test.true,
    )

some : (c : In_ok-refusal) → 1 < length c.args.at.now
some c = omega (arith, c.requires.placed.count, (rods_place_lem c.args.form).thick)

pub overflow_mul-a : goal.overflow_mul-a
overflow_mul-a c = omega (arith, within (goal.at.overflow_mul-a c).In_ok-refusal)

pub offset_bounds-values-a : goal.offset_bounds-values-a
offset_bounds-values-a c = omega (arith, within (goal.at.offset_bounds-values-a c).In_ok-refusal)

pub bounds-values-a : goal.bounds-values-a
bounds-values-a c = omega (arith, within (goal.at.bounds-values-a c).In_ok-refusal, some (goal.at.bounds-values-a c).In_ok-refusal)

pub overflow_add-a : goal.overflow_add-a
overflow_add-a c = omega (arith, within (goal.at.overflow_add-a c).In_ok-refusal, some (goal.at.overflow_add-a c).In_ok-refusal)

pub offset_bounds-values-a-in-loop-rest : goal.offset_bounds-values-a-in-loop-rest
offset_bounds-values-a-in-loop-rest c = omega (arith, within (goal.at.offset_bounds-values-a-in-loop-rest c).In_ok-refusal, some (goal.at.offset_bounds-values-a-in-loop-rest c).In_ok-refusal)

pub bounds-values-a-in-loop-rest : goal.bounds-values-a-in-loop-rest
bounds-values-a-in-loop-rest c = omega (arith, within (goal.at.bounds-values-a-in-loop-rest c).In_ok-refusal, some (goal.at.bounds-values-a-in-loop-rest c).In_ok-refusal)

-- a sound line's station and season, in the store
pub key-k-requires : goal.key-k-requires
key-k-requires c =
    let j = c.store_line-f.ensures in
    let p = c.requires.placed.count in
    rw (stored_first j p (omega (arith, some (goal.at.key-k-requires c).In_ok-refusal)), stored_value 1 j p (some (goal.at.key-k-requires c).In_ok-refusal))
    (j.checks.keyable (sound_line _ _ _ c.refusal.ensures c.in_ok-refusal.was).0)

pub offset_bounds-keys-n : goal.offset_bounds-keys-n
offset_bounds-keys-n c = omega (arith, room (goal.at.offset_bounds-keys-n c).In-loop-rest)

pub bounds-keys-n : goal.bounds-keys-n
bounds-keys-n c = room (goal.at.bounds-keys-n c).In-loop-rest

pub overflow_add-n-in-loop-rest : goal.overflow_add-n-in-loop-rest
overflow_add-n-in-loop-rest c = omega (arith, room (goal.at.overflow_add-n-in-loop-rest c).In-loop-rest)

pub loop-rest-smaller : goal.loop-rest-smaller
loop-rest-smaller c =
    line_shorter _ _ _ c.loop-rest-test.true c.find-e.ensures c.skip-next.ensures

pub loop-rest-preserved : goal.loop-rest-preserved
loop-rest-preserved c =
    let j = c.store_line-f.ensures in
    let p = c.requires.placed.count in (
      rw c.key-k.ensures
          (passing_step _ (form_keyed c.args.form) c.loop-rest.invariant.0 c.loop-rest-test.true c.find-e.ensures j
          c.refusal.ensures _ c.in_ok-refusal.was
          (stored_first j p (omega (arith, some (goal.at.loop-rest-preserved c).In_ok-refusal))) (stored_value 1 j p (some (goal.at.loop-rest-preserved c).In_ok-refusal)) c.skip-next.ensures),
      at_most_more (omega (arith, room (goal.at.loop-rest-preserved c).In-loop-rest, c.loop-rest.invariant.0.keys_count)) c.loop-rest.invariant.1 (omega (arith, c.max-most.ensures))
          (omega (arith, c.max-most.ensures)),
    )

pub shape_of-values : goal.shape_of-values
shape_of-values c = c.loop-rest.invariant.0.size

pub returns : goal.returns
returns c = passing_end c.loop-rest.invariant.0 c.loop-rest-test.false
