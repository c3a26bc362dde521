-- `convert` goes line by line: the laws of proofs/Converting.antt.
use Prim.Native.Nat.{◌+◌, ◌*◌, ◌≤◌}
use mathlib.Core.Path.{◌≡◌, ap, ◌∙◌}
use native.Mathlib.Omega.{arith}
use lib.ListN.{length}
use Rattle.tables.proofs.Writing.{put_written_as}
use Rattle.case.specs.Parts.{form_of}
use Rattle.carried_values.specs.Values.{other, carried}
use Rattle.carried_values.proofs.Converting.{carried_count, part_room, part_is, converting_step}
use Rattle.carried_values.proofs.{Converting.{converting_end}}
use Rattle.carried_values.proofs.values.convert.Goals as goal
use Rattle.carried_values.proofs.values.convert.Goals.{In-loop-i}

-- how many names the two forms have
from_count : (c : In-loop-i) → c.name_count-j.result ≡ length (form_of (other c.args.form))
from_count c = c.name_count-j.ensures ∙ ap (λ f. length (form_of f)) c.other_form.ensures

write_room : (c : In-loop-i)
    → c.name_count-k.result * c.loop-i.i + c.name_count-k.result ≤ length c.loop-i.carried
write_room c =
    part_room c.args.n c.loop-i.i _ c.name_count-k.ensures (omega (arith, c.requires.n_in_bounds_2, c.loop-i.invariant.size))
    c.loop-i-test.true

pub loop-i-preserved : goal.loop-i-preserved
loop-i-preserved c =
    converting_step c.loop-i.invariant c.loop-i-test.true
    (put_written_as _ _ _ _ c.name_count-k.ensures (write_room (goal.at.loop-i-preserved c).In-loop-i) (ap length c.convert_line.ensures ∙ carried_count _ _))
    (c.convert_line.ensures ∙ ap (carried c.args.form)
    (part_is c.args.values.now c.loop-i.i (from_count (goal.at.loop-i-preserved c).In-loop-i)))

pub returns : goal.returns
returns c = converting_end c.loop-i.invariant (omega arith)
