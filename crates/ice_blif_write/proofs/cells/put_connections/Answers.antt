use Rattle.std.proofs.Common.{arith, ◌+◌, ◌++◌, drop}
use Rattle.std.specs.List.{flat_map}
use Rattle.ice_blif_write.specs.Text.{behind_space, connections, port_names}
use Rattle.ice_blif_write.proofs.Joining.{connection_put, connections_end}
use Rattle.ice_blif_write.proofs.cells.put_connections.Goals as goal

pub returns : goal.returns
returns c =
    connections_end (c.args.out.now.items ++ flat_map behind_space (connections c.args.netlist.now.names (drop c.args.first (port_names c.args.kind)) c.args.signals.now)) c.loop-place.out.items c.args.netlist.now.names
    (port_names c.args.kind) c.args.signals.now (c.args.first + c.loop-place.place) c.loop-place.place c.loop-place-test.false c.loop-place.invariant

pub loop-place-preserved : goal.loop-place-preserved
loop-place-preserved c =
    connection_put (c.args.out.now.items ++ flat_map behind_space (connections c.args.netlist.now.names (drop c.args.first (port_names c.args.kind)) c.args.signals.now)) c.loop-place.out.items
    c.put_connection.new.out.items c.args.netlist.now.names (port_names c.args.kind) c.args.signals.now c.port_name.result.now (c.args.first + c.loop-place.place) c.loop-place.place
    (c.args.first + (c.loop-place.place + 1)) _ (omega arith) (omega arith) (omega arith) c.port_name.ensures c.in_ok-put_connection.ensures c.loop-place.invariant
