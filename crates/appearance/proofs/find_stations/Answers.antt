-- `find_stations` places row after row: the pass of proofs/Appearing.antt, with the marks of proofs/Marks.antt.
use Rattle.std.proofs.Common.{◌≡◌, ◌≤◌, ◌<◌, ◌∙◌, sym, arith, rules, length, take, FitsSigned, w64, to_z-of_z, length-set}
use Rattle.judgement.specs.Limits.{most_lines}
use Rattle.appearance.specs.Places.{mark_of, place_of, station_at}
use Rattle.appearance.proofs.{Standing.{place_known, place_new}, Marks.{marked_more}}
use Rattle.appearance.proofs.Appearing.{placing_known, placing_new, placing_end}
use Rattle.appearance.proofs.find_stations.Goals as goal
use Rattle.appearance.proofs.find_stations.Goals.{After-place_of, In-loop-i, in-Some, in-None}

held : (c : After-place_of)
    → FitsSigned w64 (station_at c.args.table.now c.loop-i.i)
held c = search rules

-- there is a place for the row and for its station
room : (c : In-loop-i) → (c.loop-i.count < most_lines) × (c.loop-i.i < most_lines)
room c =
    (omega (arith, c.requires.n_le_most_lines, c.loop-i.invariant.0.fewer, c.loop-i-test.true), omega (arith, c.requires.n_le_most_lines, c.loop-i-test.true))

pub loop-i-preserved : goal.loop-i-preserved
loop-i-preserved c =
    let small = c.requires.n_le_most_lines in
    let a = c.loop-i.invariant in
    let r = room (goal.at.loop-i-preserved c).In-loop-i in
    let fits = to_z-of_z (held (goal.at.loop-i-preserved c).After-place_of) in
    let l = c.loop-i in
    let few : l.count ≤ length l.known = omega (arith, r, a.0.known_size) in
    let station = station_at c.args.table.now l.i in
    let placed : c.place_of.result ≡ place_of station (take l.count l.known) = rw fits at c.place_of.ensures in
    elim c.match-place_of.branch [
      | in-Some w ↦
          rw (w.known-is, w.marks-is, w.places-is, w.count-is)
          (placing_known a.0 c.loop-i-test.true small (place_known few (sym placed ∙ w.in-Some.is)), a.1, a.2)
      | in-None w ↦
          let mark : w.mark.result ≡ mark_of station = rw fits at w.mark.ensures in
          rw (w.known-is, w.marks-is, w.places-is, w.count-is, fits, mark) (
            placing_new a.0 c.loop-i-test.true small (place_new few (sym placed ∙ w.in-None.is)),
            rw (length-set c.loop-i.marks) a.1,
            marked_more _ a.2 (omega (arith, r, a.0.known_size)) (omega (arith, r, a.1)),
          )
    ]

pub returns : goal.returns
returns c = placing_end c.loop-i.invariant.0 c.loop-i-test.false
