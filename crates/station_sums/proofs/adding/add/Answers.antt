-- `add` adds a row.
use mathlib.Core.Path.{sym, ◌∙◌}
use mir.{Syntax.{w64}, Val.{SFits}, Facts.{to_z-of_z}}
use Rattle.station_sums.specs.Sums.{add_to}
use borrow.Author.Rules.{rules}
use Rattle.station_sums.proofs.adding.add.Goals as goal
use Rattle.station_sums.proofs.adding.add.Goals.{Start, then-is_worst, else-is_worst}

held : (s : Start)
    → SFits w64 s.args.e.season × SFits w64 s.args.e.mesh × SFits w64 s.args.s.season × SFits w64 s.args.s.mesh
held s = search rules

pub returns : goal.returns
unfolding add_to
returns c =
    let h = held (goal.at.returns c).Start in
    elim c.if-is_worst.branch [
      | then-is_worst w ↦ rw (c.counted.ensures.value, c.counted-2.ensures.value, c.counted-3.ensures.value, w.season-is, sym c.is_worst.ensures ∙ w.if-is_worst.true) (simp (to_z-of_z h.0, to_z-of_z h.1))
      | else-is_worst w ↦ rw (c.counted.ensures.value, c.counted-2.ensures.value, c.counted-3.ensures.value, w.season-is, sym c.is_worst.ensures ∙ w.if-is_worst.false) (simp (to_z-of_z h.2, to_z-of_z h.3))
    ]
