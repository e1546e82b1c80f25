use Rattle.std.proofs.Common.{length, sym, subst}
use Rattle.ice_net.specs.NetlistData.{NetlistData}
use Rattle.ice_blif.specs.Cells.{IsReadCell}
use Rattle.ice_blif.proofs.RawCells.{cell_raw}
use Rattle.ice_blif.proofs.raw.RawNetlist.cell.Goals as goal

pub invariant_of-self-2 : goal.invariant_of-self-2
invariant_of-self-2 c =
    let read = subst (λ (n : NetlistData). IsReadCell (length n.names) c.args.cell) (sym c.self.view_is) c.requires in
    rw c.in_ok-push.ensures.items (cell_raw c.self.inside.netlist _ c.args.cell c.self.invariant read)
