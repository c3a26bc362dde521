-- `room_of` reports 0 as none.
use native.Mathlib.Omega.{arith}
use Rattle.headroom.specs.Headroom.{room_of}
use Rattle.headroom.proofs.{Bracket.{room_some}}
use Rattle.headroom.proofs.room_of.Goals as goal

pub returns-then-fault-eq0 : goal.returns-then-fault-eq0
unfolding room_of
returns-then-fault-eq0 c = rw c.if-fault-eq0.true

pub returns : goal.returns
returns c = room_some _ (omega arith)
