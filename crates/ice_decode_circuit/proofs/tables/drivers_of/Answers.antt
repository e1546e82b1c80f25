use Rattle.std.proofs.Common.{ap, set, get_or, ◌∙◌}
use Rattle.ice_decode.specs.declared.driver.Switch.{Switch}
use Rattle.ice_decode.proofs.DriverTables.{drivers_none, drivers_more}
use Rattle.ice_decode_circuit.proofs.tables.drivers_of.Goals as goal

pub loop-switch-init : goal.loop-switch-init
loop-switch-init c = drivers_none c.args.wires c.args.switches.now c.in_ok-drivers.drivers.items (c.in_ok-drivers.ensures.items_if_clones_equal (λ y h. h))

pub loop-switch-preserved : goal.loop-switch-preserved
loop-switch-preserved c =
    let none : Switch = record { row = record { 0 = 0 }; tile = record { x = 0; y = 0 }; source = record { 0 = 0 }; target = record { 0 = 0 } } in
    ap (set c.loop-switch.drivers.items (get_or c.args.switches.now c.loop-switch.switch-index none).target.0) c.joined.ensures
    ∙ drivers_more c.args.wires c.args.switches.now c.loop-switch.switch-index none c.loop-switch.drivers.items c.index.result.now c.loop-switch-test.true c.requires c.loop-switch.invariant c.index.ensures
