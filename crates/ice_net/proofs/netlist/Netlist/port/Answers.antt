use Rattle.std.proofs.Common.{◌<◌, length, sym, subst}
use Rattle.ice_net.specs.NetlistData.{NetlistData}
use Rattle.ice_net.proofs.NetlistLaws.{ported_still_indexed}
use Rattle.ice_net.proofs.netlist.Netlist.port.Goals as goal

pub invariant_of-self : goal.invariant_of-self
invariant_of-self c =
    let within = subst (λ (n : NetlistData). c.args.signal.0 < length n.names) (sym c.self.view_is) c.requires in
    ported_still_indexed _ _ _ _ _ _ c.args.signal c.args.way c.add_port.result c.self.invariant within c.add_port.ensures.places c.add_port.ensures.ports c.add_port.ensures.refused
