use Rattle.std.proofs.Common.{◌<◌, length, map, rules}
use Rattle.ice_check_promote.specs.Filling.{clocked_cell}
use Rattle.ice_net_additions.proofs.Added.{cells_more, cells_formed}
use Rattle.ice_check_promote.proofs.Filled.{cell_made, cells_long}
use Rattle.ice_check_promote.proofs.filling.add_cells.Goals as goal

pub cell-requires-in-loop-cell-clause-formed : goal.cell-requires-in-loop-cell-clause-formed
cell-requires-in-loop-cell-clause-formed c =
    let t = c.args.targets.now in
    let made = clocked_cell t.count t.clocks.items c.args.outer.now in
    let lt : c.loop-cell.cell-index < length c.args.cells.now = search rules in
    let cell = c.in_ok-cell.field-0 in
    cells_formed c.args.made.now c.loop-cell.made (map made c.args.cells.now) c.loop-cell.cell-index cell c.requires.room (cells_long t.count t.clocks.items c.args.outer.now c.args.cells.now c.loop-cell.cell-index lt)
    (cell_made t.count t.clocks.items c.args.outer.now c.args.cells.now c.loop-cell.cell-index c.cell-item.result cell lt c.cell-item.is c.in_ok-cell.ensures) c.loop-cell.invariant

pub loop-cell-preserved : goal.loop-cell-preserved
loop-cell-preserved c =
    let t = c.args.targets.now in
    let made = clocked_cell t.count t.clocks.items c.args.outer.now in
    let lt : c.loop-cell.cell-index < length c.args.cells.now = search rules in
    let cell = c.in_ok-cell.field-0 in
    cells_more c.args.made.now c.loop-cell.made c.cell-in-loop-cell.new.self (map made c.args.cells.now) c.loop-cell.cell-index cell (cells_long t.count t.clocks.items c.args.outer.now c.args.cells.now c.loop-cell.cell-index lt)
    (cell_made t.count t.clocks.items c.args.outer.now c.args.cells.now c.loop-cell.cell-index c.cell-item.result cell lt c.cell-item.is c.in_ok-cell.ensures) c.loop-cell.invariant c.in_ok-cell-2.ensures.added
