use Rattle.std.proofs.Common.{◌≡◌, List, [], ◌∷◌, sym, ap, ◌∙◌, subst}
use Rattle.std.specs.Prelude.{OnOk}
use Rattle.ice_chip.specs.Database.{Parts}
use Rattle.ice_bits.specs.Configuration.{Configuration, bits_of}
use Rattle.ice_net.specs.declared.cell.Cell.{Cell}
use Rattle.ice_back_laws.specs.Back.{table_cell, table_cells}
use Rattle.ice_back_laws.specs.Roots.{cell_table}
use Rattle.ice_back.specs.Adding.{with_cells, HasRoomForCells}
use Rattle.ice_back.proofs.Rooms.{table_made}
use Rattle.ice_back.proofs.logic.add_table.Goals as goal
use Rattle.ice_back.proofs.logic.add_table.Goals.{In_ok-made}

pub table_cell-requires-clause-table : goal.table_cell-requires-clause-table
table_cell-requires-clause-table c =
    c.cell_table-table.ensures ∙ ap (λ (parts : Parts). cell_table parts (bits_of c.bits.result.now) c.args.cell.0 c.args.cell.1) c.chip.ensures
    ∙ ap (λ (k : Configuration). cell_table c.args.configured.now.parts (bits_of k) c.args.cell.0 c.args.cell.1) c.bits.ensures

made : (c : In_ok-made) → table_cells c.args.configured.now.parts (bits_of c.args.configured.now.configuration) c.args.configured.now.configuration.extras c.args.configured.now.bonded.pads c.args.cell ≡ c.in_ok-made.made ∷ []
made c =
    table_made c.cell_table-table.result (cell_table c.args.configured.now.parts (bits_of c.args.configured.now.configuration) c.args.cell.0 c.args.cell.1)
    (table_cell c.args.configured.now.parts (bits_of c.args.configured.now.configuration) c.args.configured.now.configuration.extras c.args.configured.now.bonded.pads c.args.cell) c.in_ok-made.made
    (c.cell_table-table.ensures ∙ ap (λ (parts : Parts). cell_table parts (bits_of c.bits.result.now) c.args.cell.0 c.args.cell.1) c.chip.ensures
    ∙ ap (λ (k : Configuration). cell_table c.args.configured.now.parts (bits_of k) c.args.cell.0 c.args.cell.1) c.bits.ensures)
    c.if-table-eq0.false c.in_ok-made.ensures

pub add_cell-requires : goal.add_cell-requires
add_cell-requires c = subst (HasRoomForCells c.args.netlist.now) (made (goal.at.add_cell-requires c).In_ok-made) c.requires.room

pub returns : goal.returns
returns c =
    let a = (goal.at.returns c).In_ok-made in
    subst (λ (cells : List Cell). OnOk c.add_cell.result (c.add_cell.new.netlist ≡ with_cells c.args.netlist.now cells)) (sym (made a)) c.add_cell.ensures
