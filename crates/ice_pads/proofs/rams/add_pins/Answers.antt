use Rattle.std.proofs.lemmas.Result.{err_from_is_err_and}
use Rattle.ice_pads.specs.Assign.{with_pins}
use Rattle.ice_pads.proofs.RamPorts.{pin_more, pin_stops}
use Rattle.ice_pads.proofs.rams.add_pins.Goals as goal

pub returns-in_err-add_pin : goal.returns-in_err-add_pin
returns-in_err-add_pin c =
    let p = err_from_is_err_and c.from_residual.result c.from_residual.ensures.1 in
    rw (p.1, p.2)
    (pin_stops c.args.chip.now c.args.netlist.now c.args.pins.now c.args.wants.now c.loop-place.place _ c.loop-place.chosen.items
    (with_pins c.args.chip.now c.args.netlist.now c.args.pins.now 0 c.args.chosen.now.items c.args.wants.now) c.pin_among.result c.loop-place-test.true c.loop-place.invariant c.pin_among.ensures
    c.in_err-add_pin.field-0.0 c.in_err-add_pin.ensures)

pub loop-place-preserved : goal.loop-place-preserved
loop-place-preserved c =
    pin_more c.args.chip.now c.args.netlist.now c.args.pins.now c.args.wants.now c.loop-place.place _ c.loop-place.chosen.items
    (with_pins c.args.chip.now c.args.netlist.now c.args.pins.now 0 c.args.chosen.now.items c.args.wants.now) c.pin_among.result c.loop-place-test.true c.loop-place.invariant c.pin_among.ensures
    c.add_pin.new.chosen.items c.in_ok-add_pin.ensures
