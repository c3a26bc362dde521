-- `is_worst` follows the two tests.
use Rattle.station_sums.specs.Sums.{worst}
use borrow.Author.{Tests.{eq-eqb, ne_eqb}}
use borrow.Author.Rules.{rules}
use mir.{Syntax.{w64}, Val.{SFits}, Facts.{to_z-of_z}}
use Rattle.station_sums.proofs.adding.is_worst.Goals as goal
use Rattle.station_sums.proofs.adding.is_worst.Goals.{Start}

held : (s : Start) → SFits w64 s.args.s.mesh × SFits w64 s.args.e.mesh
held s = search rules

pub returns-then-s-eq0 : goal.returns-then-s-eq0
unfolding worst
returns-then-s-eq0 c = rw (eq-eqb _ _ c.if-s-eq0.true)

pub returns-else-s-eq0 : goal.returns-else-s-eq0
unfolding worst
returns-else-s-eq0 c =
    let h = held (goal.at.returns-else-s-eq0 c).Start in
    rw (to_z-of_z h.0, to_z-of_z h.1, ne_eqb _ _ c.if-s-eq0.false)
