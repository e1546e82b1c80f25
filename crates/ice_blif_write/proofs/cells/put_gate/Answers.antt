use Rattle.ice_blif_write.proofs.Joining.{gate_put}
use Rattle.ice_blif_write.proofs.cells.put_gate.Goals as goal

pub returns : goal.returns
returns c =
    gate_put c.args.out.now.items c.extend_from_slice.new.self.items c.put_kind.new.out.items c.put_connections.new.out.items c.put_connections-2.new.out.items c.end_line.new.out.items c.args.netlist.now.names c.args.kind
    c.args.ins.now c.args.outs.now c.in_ok-extend_from_slice.ensures.items c.in_ok-put_kind.ensures c.in_ok-put_connections.ensures c.in_ok-put_connections-2.ensures c.in_ok-end_line.ensures
