use Rattle.std.proofs.Common.{◌∷◌, [], sym, ap, ◌∙◌, subst}
use Rattle.ice_net.specs.declared.cell.Cell.{Cell}
use Rattle.ice_net.specs.declared.kind.CellKind.TheVariants.{Cover}
use Rattle.ice_back_laws.specs.Back.{cell, signal_at}
use Rattle.ice_back.specs.Adding.{with_cells, HasRoomForCells}
use Rattle.ice_back.proofs.Rooms.{cells_rest}
use Rattle.ice_back.proofs.logic.add_fixed.Goals as goal

pub add_cell-requires-2 : goal.add_cell-requires-2
add_cell-requires-2 c =
    subst (λ (high : Cell). HasRoomForCells c.add_cell.new.netlist (high ∷ [])) (sym c.in_ok-high.ensures)
    (cells_rest c.args.netlist.now c.add_cell.new.netlist (cell (Cover 0 0) [] (signal_at 0 ∷ []) ∷ []) (cell (Cover 1 0) [] (signal_at 1 ∷ []) ∷ []) c.requires
    (c.in_ok-add_cell.ensures ∙ ap (λ (low : Cell). with_cells c.args.netlist.now (low ∷ [])) c.in_ok-low.ensures))
