use Rattle.std.proofs.Common.{rules, ◌<◌, length}
use Rattle.ice_check_promote.proofs.Filled.{ports_more}
use Rattle.ice_check_promote.proofs.filling.add_ports.Goals as goal

pub loop-port-preserved : goal.loop-port-preserved
loop-port-preserved c =
    let lt : c.loop-port.port-index < length c.args.ports.now = search rules in
    ports_more c.args.made.now c.loop-port.made c.port.new.self c.args.ports.now c.loop-port.port-index _ c.requires.once lt c.loop-port.invariant c.in_ok-port.ensures.added
