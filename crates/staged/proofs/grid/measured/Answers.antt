-- `measured` computes the grid's two parts and the split by the two squares.
use mathlib.Core.Path.{◌≡◌}
use native.Mathlib.Omega.{arith}
use lib.{IntN.{pos}, ListN.{get_or, drop}}
use borrow.Author.Rules.{part_to_end}
use Rattle.whole.proofs.Bits.{back}
use Rattle.staged.specs.{Current.{square_of}, Parts.{GridPart}}
use Rattle.staged.proofs.SoundTest.{two_numbers, parts, parts_after_first, injected_small, answer_is, squares}
use Rattle.staged.proofs.grid.measured.Goals as goal
use Rattle.staged.proofs.grid.measured.Goals.{After-grid_part-in_phase, After-grid_part-quadrature, After-square-grid, After-square-injected}

-- what the calls answer
in_phase_lem : (c : After-grid_part-in_phase) → GridPart c.args.parts.now c.grid_part-in_phase.result
in_phase_lem c = c.grid_part-in_phase.ensures

quadrature : (c : After-grid_part-quadrature) → GridPart (drop 1 c.args.parts.now) c.grid_part-quadrature.result
quadrature c = rw (part_to_end c.args.parts.now 1) at c.grid_part-quadrature.ensures

grid_square_lem : (c : After-square-grid)
    → c.square-grid.result ≡ square_of c.grid_part-in_phase.result c.grid_part-quadrature.result
grid_square_lem c =
    rw (back c.grid_part-in_phase.result c.grid_part-in_phase.type_inv, back c.grid_part-quadrature.result c.grid_part-quadrature.type_inv) at c.square-grid.ensures

injected_square_lem : (c : After-square-injected)
    → let s = c.args.parts.now in c.square-injected.result
    ≡ square_of (get_or s 0 (pos 0)) (get_or s 1 (pos 0))
injected_square_lem c =
    let s = c.args.parts.now in
    rw (back (get_or s 0 (pos 0)) c.square-arg-1.given, back (get_or s 1 (pos 0)) c.square-arg-2-1.given) at c.square-injected.ensures

pub grid_part-in_phase-requires : goal.grid_part-in_phase-requires
grid_part-in_phase-requires c = parts c.requires

pub slice_bounds-grid_part-count : goal.slice_bounds-grid_part-count
slice_bounds-grid_part-count c = omega (arith, two_numbers c.requires)

pub slice_bounds-grid_part-start : goal.slice_bounds-grid_part-start
slice_bounds-grid_part-start c = omega (arith, two_numbers c.requires)

pub grid_part-quadrature-requires : goal.grid_part-quadrature-requires
grid_part-quadrature-requires c = rw (part_to_end c.args.parts.now 1) (parts_after_first c.requires)

pub square-grid-requires : goal.square-grid-requires
square-grid-requires c =
    rw (back c.grid_part-in_phase.result c.grid_part-in_phase.type_inv, back c.grid_part-quadrature.result c.grid_part-quadrature.type_inv)
    ((in_phase_lem (goal.at.square-grid-requires c).After-grid_part-in_phase).small, (quadrature (goal.at.square-grid-requires c).After-grid_part-quadrature).small)

pub bounds-parts-0 : goal.bounds-parts-0
bounds-parts-0 c = omega (arith, two_numbers c.requires)

pub bounds-parts-1 : goal.bounds-parts-1
bounds-parts-1 c = omega (arith, two_numbers c.requires)

pub square-injected-requires : goal.square-injected-requires
square-injected-requires c =
    let s = c.args.parts.now in
    rw (back (get_or s 0 (pos 0)) c.square-arg-1.given, back (get_or s 1 (pos 0)) c.square-arg-2-1.given) (injected_small c.requires)

pub per_mille-requires : goal.per_mille-requires
per_mille-requires c =
    rw (grid_square_lem (goal.at.per_mille-requires c).After-square-grid, injected_square_lem (goal.at.per_mille-requires c).After-square-injected) (squares c.requires c.grid_part-in_phase.result c.grid_part-quadrature.result (in_phase_lem (goal.at.per_mille-requires c).After-grid_part-in_phase).small
    (quadrature (goal.at.per_mille-requires c).After-grid_part-quadrature).small)

pub returns : goal.returns
returns c =
    rw (back c.grid_part-in_phase.result c.grid_part-in_phase.type_inv, back c.grid_part-quadrature.result c.grid_part-quadrature.type_inv)
    (answer_is c.requires (in_phase_lem (goal.at.returns c).After-grid_part-in_phase) (quadrature (goal.at.returns c).After-grid_part-quadrature) (grid_square_lem (goal.at.returns c).After-square-grid) (injected_square_lem (goal.at.returns c).After-square-injected) c.per_mille.ensures)
