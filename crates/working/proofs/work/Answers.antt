-- `work` puts the parts together.
use native.Mathlib.Omega.{arith}
use Rattle.lengths.proofs.Lengths.{conductor_bounds, rod_bound, total_bounds}
use Rattle.effective_number.proofs.{NumberSpans.{n_span}, NumberEnclosed.{counts}}
use Rattle.working.specs.Ends.{working_of}
use Rattle.working.proofs.work.Goals as goal

pub by_counts-by-requires : goal.by_counts-by-requires
by_counts-by-requires c = counts c.requires

pub drive-drive-requires : goal.drive-drive-requires
drive-drive-requires c = record { bounds = c.requires; n_value = rw c.by_counts-by.ensures; current_value = c.ig-current.ensures }

pub in_micrometres-requires : goal.in_micrometres-requires
in_micrometres-requires c =
    rw c.lc.ensures (omega (arith, (conductor_bounds c.requires).high))

pub in_micrometres-requires-2 : goal.in_micrometres-requires-2
in_micrometres-requires-2 c =
    rw c.lr.ensures (omega (arith, rod_bound c.requires))

pub in_micrometres-requires-3 : goal.in_micrometres-requires-3
in_micrometres-requires-3 c =
    rw c.lt.ensures (omega (
      arith,
      (total_bounds
          c.requires).high,
    ))

pub step_in_micrometres-requires : goal.step_in_micrometres-requires
step_in_micrometres-requires c = c.requires

pub ki-requires : goal.ki-requires
ki-requires c = rw c.by_counts-by.ensures (n_span (counts c.requires))

pub kii-requires : goal.kii-requires
kii-requires c = record { bounds = c.requires; by_value = c.by_counts-by.ensures }

pub kh-requires : goal.kh-requires
kh-requires c = c.requires

pub km-requires : goal.km-requires
km-requires c =
    record { bounds = c.requires; by_value = c.by_counts-by.ensures }

pub ks-requires : goal.ks-requires
ks-requires c =
    record { bounds = c.requires; by_value = c.by_counts-by.ensures }

pub driven-requires : goal.driven-requires
driven-requires c =
    record { bounds = c.requires; length_len = c.lm-lm.ensures; drive_value = c.drive-drive.ensures }

pub returns : goal.returns
unfolding working_of
returns c =
    rw (
      c.driven.ensures,
      c.ks.ensures,
      c.km.ensures,
      c.kh.ensures,
      c.kii.ensures,
      c.ki.ensures,
      c.step_in_micrometres.ensures,
      c.in_micrometres-3.ensures,
      c.lt.ensures,
      c.in_micrometres-2.ensures,
      c.lr.ensures,
      c.in_micrometres.ensures,
      c.lc.ensures,
      c.side_term.ensures,
      c.time_root.ensures,
      c.cs.ensures,
      c.lm-lm.ensures,
      c.by_counts-by.ensures,
    )
