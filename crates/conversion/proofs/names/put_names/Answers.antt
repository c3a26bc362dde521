-- `put_names` puts the names one after the other, each with the byte after it: proofs/NamesLine.antt.
use Prim.Native.Nat.{◌<◌}
use native.Mathlib.Omega.{arith}
use lib.ListN.{length}
use Rattle.case.specs.Parts.{form_of}
use Rattle.header.specs.Parts.{name_at}
use Rattle.writing.specs.Put.{Put}
use Rattle.conversion.proofs.NamesLine.{names_start, name_room, parting_room, named_size, name_step, names_end}
use Rattle.conversion.proofs.names.put_names.Goals as goal
use Rattle.conversion.proofs.names.put_names.Goals.{After-put_bytes-p, In-loop-k}

pub loop-k-init : goal.loop-k-init
loop-k-init c = names_start _ _ c.requires

within : (i : In-loop-k) → i.loop-k.k < length (form_of i.args.form)
within i = omega (arith, i.loop-k-test.true, i.name_count-n.ensures)

pub put_bytes-p-requires : goal.put_bytes-p-requires
put_bytes-p-requires c = rw c.name.ensures (name_room c.loop-k.invariant (within (goal.at.put_bytes-p-requires c).In-loop-k))

-- the name is put
put : (p : After-put_bytes-p) → Put p.loop-k.line p.loop-k.p (name_at (form_of p.args.form) p.loop-k.k) p.put_bytes-p.new.buf p.put_bytes-p.result
put p = rw p.name.ensures at p.put_bytes-p.ensures

pub bounds-line-p : goal.bounds-line-p
bounds-line-p c =
    parting_room c.loop-k.invariant (within (goal.at.bounds-line-p c).In-loop-k) (put (goal.at.bounds-line-p c).After-put_bytes-p)

pub overflow_add-p : goal.overflow_add-p
overflow_add-p c =
    omega (arith, parting_room c.loop-k.invariant (within (goal.at.overflow_add-p c).In-loop-k) (put (goal.at.overflow_add-p c).After-put_bytes-p), named_size c.loop-k.invariant (within (goal.at.overflow_add-p c).In-loop-k) (put (goal.at.overflow_add-p c).After-put_bytes-p))

pub loop-k-preserved : goal.loop-k-preserved
loop-k-preserved c =
    name_step c.loop-k.invariant (within (goal.at.loop-k-preserved c).In-loop-k) (put (goal.at.loop-k-preserved c).After-put_bytes-p) c.name_count-n.ensures c.parting.ensures

pub returns : goal.returns
returns c = names_end c.loop-k.invariant (omega (arith, c.name_count-n.ensures))
