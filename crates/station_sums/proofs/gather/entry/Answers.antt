-- `entry` reads three numbers of a row; each fits 64 bits with its sign.
use Rattle.std.proofs.Common.{ℕ, ◌≡◌, ◌+◌, ◌-◌, ◌*◌, ◌<◌, ◌∙◌, List, ℤ, pos, get_or, take, drop, arith, rules}
use Rattle.std.proofs.lemmas.List.{get_or-take, get_or-drop}
use mir.{Syntax.{w64}, Val.{SFits}, Facts.{to_z-of_z}}
use Rattle.row.specs.{Row.{row_length}, Places.{season_place, verdict_place, mesh_upper_place}}
use Rattle.station_sums.specs.Sums.{entry_at}
use Rattle.station_sums.proofs.gather.entry.Goals as goal

in_part : (table : List ℤ) (i k : ℕ) → k < row_length
    → get_or (take (row_length * (i + 1) - row_length * i) (drop (row_length * i) table)) k (pos 0) ≡ get_or table (row_length * i + k) (pos 0)
in_part table i k h =
    get_or-take (row_length * (i + 1) - row_length * i) (drop (row_length * i) table) k (pos 0) (omega arith)
    ∙ get_or-drop (row_length * i) table k (pos 0)

pub returns : goal.returns
unfolding entry_at
returns c =
    let row = take (row_length * (c.args.i + 1) - row_length * c.args.i) (drop (row_length * c.args.i) c.args.table.now) in
    let season : SFits w64 (get_or row season_place (pos 0)) = search rules in
    let verdict : SFits w64 (get_or row verdict_place (pos 0)) = search rules in
    let mesh : SFits w64 (get_or row mesh_upper_place (pos 0)) = search rules in
    rw (
      to_z-of_z season,
      to_z-of_z verdict,
      to_z-of_z mesh,
      in_part c.args.table.now c.args.i season_place (omega arith),
      in_part c.args.table.now c.args.i verdict_place (omega arith),
      in_part c.args.table.now c.args.i mesh_upper_place (omega arith),
    )
