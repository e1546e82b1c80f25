use Rattle.std.proofs.Common.{false, replicate, ap, sym, ◌∙◌, subst, arith}
use Rattle.std.proofs.lemmas.Option.{slice_get-get_or}
use Rattle.ice_net.specs.NetlistData.{NetlistData}
use Rattle.ice_cells.specs.declared.origin.Origin.TheVariants.{Fixed}
use Rattle.ice_pack_share.specs.Along.{AreFound}
use Rattle.ice_pack_share.proofs.OriginSteps.{next_below, none_found, found_more, all_found}
use Rattle.ice_pack_share.proofs.tracing.origins.Goals as goal

pub loop-s-init : goal.loop-s-init
loop-s-init c =
    subst (AreFound c.args.sound.now c.signal_order-order.result.now 0) (sym (c.in_ok-found.ensures ∙ ap (λ n. replicate n (Fixed false)) c.drivers-drivers.ensures.long))
    (none_found c.args.sound.now c.signal_order-order.result.now c.signal_order-order.ensures)

pub settle-requires-clause-found : goal.settle-requires-clause-found
settle-requires-clause-found c =
    let below = next_below c.args.sound.now c.signal_order-order.result.now c.signal_order-order.ensures c.loop-s.s-index 0 c.loop-s-test.true in
    let long = c.loop-s.invariant.long in
    omega (arith, below, long)

pub settle-requires-clause-drivers : goal.settle-requires-clause-drivers
settle-requires-clause-drivers c =
    let below = next_below c.args.sound.now c.signal_order-order.result.now c.signal_order-order.ensures c.loop-s.s-index 0 c.loop-s-test.true in
    let long = c.drivers-drivers.ensures.long in
    omega (arith, below, long)

pub loop-s-preserved : goal.loop-s-preserved
loop-s-preserved c =
    found_more c.args.sound.now c.signal_order-order.result.now c.signal_order-order.ensures c.cells-cells.result.now c.drivers-drivers.result.now c.loop-s.s-index _
    c.loop-s.found.items c.settle.new.found.items (c.cells-cells.ensures.cells ∙ ap (λ (n : NetlistData). n.cells) c.netlist.ensures.netlist) c.drivers-drivers.ensures
    (slice_get-get_or c.signal_order-order.result.now c.loop-s.s-index 0 c.loop-s-test.true) c.loop-s.invariant c.in_ok-settle.ensures

pub returns : goal.returns
returns c = all_found c.args.sound.now c.signal_order-order.result.now c.signal_order-order.ensures c.loop-s.s-index c.loop-s.found.items c.loop-s-test.false c.loop-s.invariant
