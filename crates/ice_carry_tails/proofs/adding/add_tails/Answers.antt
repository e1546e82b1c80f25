use Rattle.std.proofs.Common.{◌∙◌, ◌<◌, ◌≤◌, get_or, length, map, take, ap, refl, arith, rules}
use Rattle.ice_carry_tails.specs.Tails.{read_behind, tails}
use Rattle.ice_carry_tails.proofs.Added.{length_tails}
use Rattle.ice_net_additions.proofs.Added.{cells_more, cells_all, cells_room, cells_formed}
use Rattle.ice_carry_tails.proofs.Grown.{cell_there, tail_made, tails_long}
use Rattle.std.proofs.lemmas.List.{length-map}
use Rattle.ice_carry_tails.proofs.adding.add_tails.Goals as goal

pub bounds-cells-table : goal.bounds-cells-table
bounds-cells-table c =
    let n = c.args.netlist.now in
    let lt : c.loop-place.place < length c.args.tables.now = search rules in
    let below = c.requires.below c.loop-place.place 0 lt in
    let there = cell_there n c.loop-place.netlist (take c.loop-place.place (tails c.args.first (map (read_behind n.cells) c.args.tables.now))) (get_or c.args.tables.now c.loop-place.place 0) below c.loop-place.invariant in
    let same = ap (λ xs. length xs) c.cells.ensures.cells in
    omega (arith, there, same)

pub cell-requires-clause-room : goal.cell-requires-clause-room
cell-requires-clause-room c =
    let n = c.args.netlist.now in
    let lt : c.loop-place.place < length c.args.tables.now = search rules in
    cells_room n c.loop-place.netlist (tails c.args.first (map (read_behind n.cells) c.args.tables.now)) c.loop-place.place c.requires.room (tails_long c.args.first n.cells c.args.tables.now c.loop-place.place lt) c.loop-place.invariant

pub cell-requires-clause-formed : goal.cell-requires-clause-formed
cell-requires-clause-formed c =
    let n = c.args.netlist.now in
    let lt : c.loop-place.place < length c.args.tables.now = search rules in
    let table = get_or c.args.tables.now c.loop-place.place 0 in
    let below = c.requires.below c.loop-place.place 0 lt in
    let more = take c.loop-place.place (tails c.args.first (map (read_behind n.cells) c.args.tables.now)) in
    let at = c.index-cells-table.is ∙ ap (λ xs. get_or xs table c.index-cells-table.result) c.cells.ensures.cells in
    cells_formed n c.loop-place.netlist (tails c.args.first (map (read_behind n.cells) c.args.tables.now)) c.loop-place.place c.in_ok-cell.cell c.requires.room
    (tails_long c.args.first n.cells c.args.tables.now c.loop-place.place lt)
    (tail_made n c.loop-place.netlist c.args.first c.args.tables.now c.loop-place.place table 0 c.index-cells-table.result c.in_ok-cell.cell more lt refl below c.loop-place.invariant at c.in_ok-cell.ensures)
    c.loop-place.invariant

pub loop-place-preserved : goal.loop-place-preserved
loop-place-preserved c =
    let n = c.args.netlist.now in
    let lt : c.loop-place.place < length c.args.tables.now = search rules in
    let table = get_or c.args.tables.now c.loop-place.place 0 in
    let below = c.requires.below c.loop-place.place 0 lt in
    let more = take c.loop-place.place (tails c.args.first (map (read_behind n.cells) c.args.tables.now)) in
    let at = c.index-cells-table.is ∙ ap (λ xs. get_or xs table c.index-cells-table.result) c.cells.ensures.cells in
    cells_more n c.loop-place.netlist c.cell.new.self (tails c.args.first (map (read_behind n.cells) c.args.tables.now)) c.loop-place.place c.in_ok-cell.cell
    (tails_long c.args.first n.cells c.args.tables.now c.loop-place.place lt)
    (tail_made n c.loop-place.netlist c.args.first c.args.tables.now c.loop-place.place table 0 c.index-cells-table.result c.in_ok-cell.cell more lt refl below c.loop-place.invariant at c.in_ok-cell.ensures)
    c.loop-place.invariant c.in_ok-cell-2.ensures.added

pub returns : goal.returns
returns c =
    let n = c.args.netlist.now in
    let le : length c.args.tables.now ≤ c.loop-place.place = search rules in
    let long = length_tails c.args.first (map (read_behind n.cells) c.args.tables.now) in
    let same = length-map c.args.tables.now (read_behind n.cells) in
    cells_all n c.loop-place.netlist (tails c.args.first (map (read_behind n.cells) c.args.tables.now)) c.loop-place.place (omega (arith, long, same, le)) c.loop-place.invariant
