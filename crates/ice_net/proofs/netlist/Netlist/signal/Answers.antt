use Rattle.std.proofs.Common.{◌<◌, length, sym, subst}
use Rattle.ice_net.specs.NetlistData.{NetlistData}
use Rattle.ice_net.proofs.NetlistLaws.{named_still_indexed}
use Rattle.ice_net.proofs.netlist.Netlist.signal.Goals as goal

pub invariant_of-self-2 : goal.invariant_of-self-2
invariant_of-self-2 c =
    let room = subst (λ (n : NetlistData). length n.names < 1073741823) (sym c.self.view_is) c.requires in
    named_still_indexed _ _ _ _ _ _ c.self.invariant room c.in_ok-number.ensures.appended
