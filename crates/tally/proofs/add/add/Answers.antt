-- `add` adds a line to each count.
use native.Mathlib.Omega.{arith}
use Rattle.tally.specs.{Lines.{answered_unsafe, answered_undecided}, Tally.{add_line}}
use Rattle.tally.proofs.{Counts.{counts_most}, Faults.{fault_common}}
use Rattle.tally.proofs.add.add.Goals as goal

pub overflow_add-not_safe : goal.overflow_add-not_safe
overflow_add-not_safe c =
    record { fits = omega (arith, c.requires.small.not_safe_lem, counts_most _ c.count_unsafe.ensures) }

pub overflow_add-undecided : goal.overflow_add-undecided
overflow_add-undecided c =
    record { fits = omega (arith, c.requires.small.undecided, counts_most _ c.count_undecided.ensures) }

pub overflow_add-other : goal.overflow_add-other
overflow_add-other c =
    record {
      fits = omega (arith, c.requires.small.other, counts_most _ c.count_other.ensures);
    }

pub overflow_add-small : goal.overflow_add-small
overflow_add-small c =
    record { fits = omega (arith, c.requires.small.small, counts_most _ c.count_small.ensures) }

pub returns : goal.returns
unfolding add_line answered_unsafe answered_undecided
returns c =
    rw (c.count_unsafe.ensures, c.count_undecided.ensures, c.count_other.ensures, c.count_small.ensures)
    (rw (c.has-4.ensures, c.has-3.ensures, c.has-2.ensures, c.has.ensures)
    (rw (c.min.ensures, fault_common c.requires.bounds _ c.greatest_fault.ensures, c.work_row-row.ensures)))
