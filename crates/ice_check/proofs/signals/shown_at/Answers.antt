use Rattle.std.proofs.Common.{◌≡◌, length, map, rules, arith}
use Rattle.std.proofs.lemmas.Grind.{common_steps}
use Rattle.ice_check.specs.Faults.{shown_of}
use Rattle.ice_check.proofs.ListsBelow.{shown_below}
use Rattle.ice_check.proofs.signals.shown_at.Goals as goal

pub places-requires : goal.places-requires
places-requires c =
    let all : c.deref-2.result.now ≡ map (shown_of c.args.netlist.now.cells) c.args.netlist.now.ports = grind (arith, common_steps) in
    let count : c.signals.result ≡ length c.args.netlist.now.names = search rules in
    rw (all, count) (shown_below c.args.netlist.now c.ports-port-items.ensures.formed)
