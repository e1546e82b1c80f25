use Rattle.std.proofs.Common.{◌∷◌, [], codes}
use Rattle.ice_back_laws.specs.Numbers.{cell_name}
use Rattle.ice_back.proofs.Rooms.{names_first, names_rest}
use Rattle.ice_back.proofs.names.add_names_of_cell.Goals as goal

pub add_cell_name-requires : goal.add_cell_name-requires
add_cell_name-requires c =
    names_first c.args.netlist.now (cell_name (codes "_lut_") c.args.cell ∷ []) (cell_name (codes "_dff_") c.args.cell ∷ cell_name (codes "_carry_") c.args.cell ∷ []) c.requires

pub add_cell_name-requires-2 : goal.add_cell_name-requires-2
add_cell_name-requires-2 c =
    names_first _ (cell_name (codes "_dff_") c.args.cell ∷ []) (cell_name (codes "_carry_") c.args.cell ∷ [])
    (names_rest c.args.netlist.now _ (cell_name (codes "_lut_") c.args.cell ∷ []) (cell_name (codes "_dff_") c.args.cell ∷ cell_name (codes "_carry_") c.args.cell ∷ []) c.requires c.in_ok-add_cell_name.ensures)

pub add_cell_name-requires-3 : goal.add_cell_name-requires-3
add_cell_name-requires-3 c =
    names_rest _ _ (cell_name (codes "_dff_") c.args.cell ∷ []) (cell_name (codes "_carry_") c.args.cell ∷ [])
    (names_rest c.args.netlist.now _ (cell_name (codes "_lut_") c.args.cell ∷ []) (cell_name (codes "_dff_") c.args.cell ∷ cell_name (codes "_carry_") c.args.cell ∷ []) c.requires c.in_ok-add_cell_name.ensures)
    c.in_ok-add_cell_name-2.ensures
