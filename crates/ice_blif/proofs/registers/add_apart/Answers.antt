use Rattle.std.proofs.Common.{◌≤◌, length, sym, subst}
use Rattle.ice_net.specs.NetlistData.{NetlistData}
use Rattle.ice_blif.proofs.Apart.{own_grows}
use Rattle.ice_blif.proofs.RegisterCells.{buffer_of_formed}
use Rattle.ice_blif.proofs.registers.add_apart.Goals as goal

pub add_buffer-requires-clause-formed : goal.add_buffer-requires-clause-formed
add_buffer-requires-clause-formed c =
    let before : NetlistData = c.args.netlist.now in
    let own = c.own_cell.result in
    let grows = subst (λ (n : NetlistData). length before.names ≤ length n.names) (sym c.in_ok-add_own.ensures.netlist) (own_grows before own own.kind) in
    buffer_of_formed (length before.names) (length c.add_own.new.netlist.names) c.args.cell c.in_ok-buffer.buffer grows c.requires.read c.in_ok-buffer.ensures.buffer
