use Rattle.std.proofs.Common.{◌≡◌, length, ap, ◌∙◌}
use Rattle.std.proofs.lemmas.List.{length_push}
use Rattle.std.proofs.lemmas.Slice.Zip.{zip_turn, zip_end}
use Rattle.ice_chip.specs.Views.{package_view}
use Rattle.ice_report.specs.PinReport.{pin_line}
use Rattle.ice_base.proofs.Pieces.{further}
use Rattle.ice_report.proofs.Writing.{pair_more, pairs_end}
use Rattle.ice_report.proofs.pins.put_ports.Goals as goal

pub loop-port-preserved : goal.loop-port-preserved
loop-port-preserved c =
    let made = c.into_iter-port-iterator.ensures.into_iter_gives in
    let ports : c.into_iter-port-iterator.result.a.rest.now ≡ c.args.ports.now = ap (λ z. z.a.rest.now) made ∙ ap (λ i. i.rest.now) c.zip-port-items.ensures.first ∙ c.iter.ensures.rest in
    let pads : c.into_iter-port-iterator.result.b.rest.now ≡ c.args.pads.now = ap (λ z. z.b.rest.now) made ∙ c.zip-port-items.ensures.second.0 in
    let t = zip_turn c.args.ports.now c.args.pads.now c.loop-port.yielded c.into_iter-port-iterator.result c.loop-port.port-iterator c.next.new.self c.next.result ports pads c.loop-port.yielded_by
    (c.in-Some.port, c.in-Some.pad) c.in-Some.is c.next.ensures.steps in
    further _ _ _ _ _ _ c.loop-port.invariant c.in_ok-put_port.ensures
    (pair_more (pin_line c.args.netlist.now (package_view c.args.package.now)) c.args.ports.now c.args.pads.now (length c.loop-port.yielded) _ c.in-Some.port.now c.in-Some.pad.now t.0 t.1
    (t.2 c.in-Some.port.now) (t.3 c.in-Some.pad.now) (length_push c.loop-port.yielded (c.in-Some.port, c.in-Some.pad)))

pub returns : goal.returns
returns c =
    let made = c.into_iter-port-iterator.ensures.into_iter_gives in
    let ports : c.into_iter-port-iterator.result.a.rest.now ≡ c.args.ports.now = ap (λ z. z.a.rest.now) made ∙ ap (λ i. i.rest.now) c.zip-port-items.ensures.first ∙ c.iter.ensures.rest in
    let pads : c.into_iter-port-iterator.result.b.rest.now ≡ c.args.pads.now = ap (λ z. z.b.rest.now) made ∙ c.zip-port-items.ensures.second.0 in
    let all = zip_end c.args.ports.now c.args.pads.now c.loop-port.yielded c.into_iter-port-iterator.result c.loop-port.port-iterator c.next.new.self c.next.result ports pads c.loop-port.yielded_by
    c.in-None.is c.next.ensures.steps in
    pairs_end (pin_line c.args.netlist.now (package_view c.args.package.now)) c.args.ports.now c.args.pads.now (length c.loop-port.yielded) c.args.text.now.items c.loop-port.text.items all
    c.loop-port.invariant
