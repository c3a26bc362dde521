-- `greatest_fault` is the search of proofs/Bracket.antt. The measure counts the turns that are left, at most 23.
use mathlib.Core.Path.{sym, ◌∙◌}
use native.Mathlib.Omega.{arith}
use Rattle.headroom.proofs.Bracket.{bracket_start, bracket_safe, bracket_over, bracket_none, bracket_found, fault_in_range}
use Rattle.headroom.proofs.{Turns.{turn_less}}
use Rattle.headroom.proofs.search.greatest_fault.Goals as goal

pub loop-over-init : goal.loop-over-init
loop-over-init c = bracket_start _

pub overflow_sub-over : goal.overflow_sub-over
overflow_sub-over c = omega arith

pub next_fault-fault-requires : goal.next_fault-fault-requires
next_fault-fault-requires c = omega arith

pub ask-told-requires : goal.ask-told-requires
ask-told-requires c =
    let n = c.next_fault-fault.ensures in
    record { bounds = c.requires; fixed_value = c.fixed_parts-fixed.ensures; in_range = fault_in_range c.requires c.loop-over.invariant n.above n.below }

pub loop-over-smaller-then-told : goal.loop-over-smaller-then-told
loop-over-smaller-then-told c =
    let n = c.next_fault-fault.ensures in
    rw c.fewer-guesses.ensures
    (turn_less _ _ _ (omega arith) (omega arith) (omega arith) (λ z. omega (arith, n.middle z)))

pub loop-over-preserved-then-told : goal.loop-over-preserved-then-told
loop-over-preserved-then-told c =
    let n = c.next_fault-fault.ensures in
    bracket_safe c.requires c.loop-over.invariant n.above n.below (sym c.ask-told.ensures ∙ c.if-told.true)

pub loop-over-smaller : goal.loop-over-smaller
loop-over-smaller c =
    let n = c.next_fault-fault.ensures in
    rw c.fewer-guesses.ensures
    (turn_less _ _ _ (omega arith) (omega arith) (omega arith) (λ z. omega (arith, n.middle z)))

pub loop-over-preserved : goal.loop-over-preserved
loop-over-preserved c =
    let n = c.next_fault-fault.ensures in
    bracket_over c.requires c.loop-over.invariant n.above n.below (sym c.ask-told.ensures ∙ c.if-told.false)

pub returns-then-safe-ge-LEAST_FAULT : goal.returns-then-safe-ge-LEAST_FAULT
returns-then-safe-ge-LEAST_FAULT c =
    bracket_found c.requires c.loop-over.invariant (omega arith) (omega arith)

pub returns : goal.returns
returns c =
    bracket_none c.requires c.loop-over.invariant (omega arith) (omega arith)
