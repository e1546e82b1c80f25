use Rattle.std.proofs.Common.{arith}
use Rattle.ice_blif_write.proofs.Joining.{port_more}
use Rattle.ice_blif_write.proofs.ports.put_ports.Goals as goal

pub loop-port-preserved : goal.loop-port-preserved
loop-port-preserved c =
    port_more c.args.netlist.now.names c.args.ports.now c.loop-port.port-index _ c.name.result.now c.args.out.now.items c.loop-port.out.items c.put_ways.new.out.items (omega arith) c.requires
    c.name.ensures c.loop-port.invariant c.in_ok-put_ways.ensures
