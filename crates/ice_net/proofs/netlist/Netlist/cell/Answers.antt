use Rattle.std.proofs.Common.{◌<◌, length, sym, subst}
use Rattle.ice_net.specs.NetlistData.{NetlistData}
use Rattle.ice_net.specs.Formed.{IsFormedCell}
use Rattle.ice_net.proofs.NetlistLaws.{celled_still_indexed}
use Rattle.ice_net.proofs.netlist.Netlist.cell.Goals as goal

pub invariant_of-self-2 : goal.invariant_of-self-2
invariant_of-self-2 c =
    let formed = subst (λ (n : NetlistData). IsFormedCell (length n.names) c.args.cell) (sym c.self.view_is) c.requires.formed in
    let room = subst (λ (n : NetlistData). length n.cells < 1073741823) (sym c.self.view_is) c.requires.room in
    rw c.in_ok-push.ensures.items (celled_still_indexed _ _ _ _ _ c.self.invariant room formed)
