use Rattle.std.proofs.Common.{length, sym, subst}
use Rattle.ice_blif.specs.declared.reader.Last.{Last}
use Rattle.ice_blif.specs.Cells.{IsReadCell, IsFormedLast}
use Rattle.ice_blif.specs.Views.{cover_view, last_view}
use Rattle.ice_blif.proofs.OpenCells.{cover_read}
use Rattle.ice_blif.proofs.reader.finish.Goals as goal

pub cell-requires-in-Rows : goal.cell-requires-in-Rows
cell-requires-in-Rows c =
    let signals = length c.args.netlist.now.names in
    let open_cover = subst (λ (last : Last). IsFormedLast signals (last_view last)) c.in-Rows.is c.requires in
    subst (IsReadCell signals) (sym c.cover_cell.ensures) (cover_read signals (cover_view c.in-Rows.cover) open_cover)
