use Rattle.std.proofs.Common.{◌+◌, [], List, arith, map, take, ap, sym, ◌∙◌}
use Rattle.ice_net.specs.declared.port.Port.{Port}
use Rattle.ice_sim_sweep.specs.Feeds.{tap_of}
use Rattle.ice_base.proofs.Pushed.{mapped_behind}
use Rattle.ice_sim_sweep.proofs.plan.taps.Goals as goal

pub loop-port-preserved : goal.loop-port-preserved
loop-port-preserved c =
    let of = tap_of c.args.netlist.now in
    mapped_behind of _ [] c.loop-port.taps.items c.push.new.self.items c.ports-port-items.result.now c.loop-port.port-index c.tap.result (omega arith)
    (c.loop-port.invariant ∙ ap (λ (ports : List Port). map of (take c.loop-port.port-index ports)) (sym c.ports-port-items.ensures.ports))
    c.in_ok-push.ensures.items c.tap.ensures
    ∙ ap (λ (ports : List Port). map of (take (c.loop-port.port-index + 1) ports)) c.ports-port-items.ensures.ports
