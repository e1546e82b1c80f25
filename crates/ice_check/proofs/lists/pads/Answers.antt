use Rattle.std.proofs.Common.{◌+◌, ◌∙◌, ap, sym, map, take, length, arith}
use Rattle.ice_net.specs.Drivers.{pad_of}
use Rattle.ice_base.proofs.Pushed.{mapped_push, mapped_all}
use Rattle.ice_check.proofs.lists.pads.Goals as goal

pub loop-port-preserved : goal.loop-port-preserved
loop-port-preserved c =
    let f = pad_of c.args.netlist.now.cells in
    let same = c.ports-port-items.ensures.ports in
    mapped_push f c.ports-port-items.result.now c.loop-port.port-index _ _ _ _ (omega arith) (c.loop-port.invariant ∙ ap (λ ports. map f (take c.loop-port.port-index ports)) (sym same)) c.in_ok-push.ensures.items c.pad_of.ensures
    ∙ ap (λ ports. map f (take (c.loop-port.port-index + 1) ports)) same

pub returns : goal.returns
returns c =
    let long = ap length c.ports-port-items.ensures.ports in
    mapped_all (pad_of c.args.netlist.now.cells) c.args.netlist.now.ports c.loop-port.port-index _ (omega arith) c.loop-port.invariant
