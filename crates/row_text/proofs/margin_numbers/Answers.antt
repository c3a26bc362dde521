-- `margin_numbers` puts the margins after three numbers of the row.
use borrow.Author.Rules.{rules}
use lib.{IntN.{pos}, ListN.{get_or}}
use mir.{Syntax.{w64}, Val.{SFits}, Facts.{to_z-of_z}}
use Rattle.margin.specs.Margin.{margins_of}
use Rattle.row.specs.Places.{station_place, season_place, verdict_place}
use Rattle.row_text.specs.Shown.{margin_numbers}
use Rattle.row_text.proofs.ShownLines.{margins_or}
use Rattle.row_text.proofs.margin_numbers.Goals as goal

pub returns : goal.returns
unfolding margin_numbers
returns c =
    let row = c.args.row.now in
    let two = c.unwrap_or-mesh in
    let station : SFits w64 (get_or row station_place (pos 0)) = search rules in
    let season : SFits w64 (get_or row season_place (pos 0)) = search rules in
    let verdict : SFits w64 (get_or row verdict_place (pos 0)) = search rules in
    let margins : SFits w64 two.result.0 × SFits w64 two.result.1 = search rules in
    rw (
      to_z-of_z station,
      to_z-of_z season,
      to_z-of_z verdict,
      to_z-of_z margins.0,
      to_z-of_z margins.1,
      ← margins_or (margins_of row),
      two.ensures,
      c.margins.ensures,
    )
