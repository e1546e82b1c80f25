use Rattle.std.proofs.Common.{◌≡◌, ◌<◌, length, get_or, ap, ◌∙◌, true, arith}
use Rattle.std.proofs.lemmas.List.{length-set, length-replicate}
use Rattle.ice_decode.specs.declared.driver.Switch.{Switch}
use Rattle.ice_decode.proofs.DriverTables.{sources_none, sources_more, source_below}
use Rattle.ice_decode_circuit.proofs.tables.sources_of.Goals as goal

pub loop-switch-init : goal.loop-switch-init
loop-switch-init c =
    let blank = c.in_ok-sources.ensures.items_if_clones_equal (λ y h. h) in
    record {
      long = ap length blank ∙ length-replicate c.args.wires _;
      sources = sources_none c.args.wires c.args.switches.now c.in_ok-sources.sources.items blank;
    }

pub loop-switch-preserved : goal.loop-switch-preserved
loop-switch-preserved c =
    let none : Switch = record { row = record { 0 = 0 }; tile = record { x = 0; y = 0 }; source = record { 0 = 0 }; target = record { 0 = 0 } } in
    let long : length c.loop-switch.sources.items ≡ c.args.wires = c.loop-switch.invariant.long in
    let below : (get_or c.args.switches.now c.loop-switch.switch-index none).source.0 < c.args.wires = source_below c.args.wires c.args.switches.now c.loop-switch.switch-index none c.loop-switch-test.true c.requires in
    record {
      long = length-set c.loop-switch.sources.items (get_or c.args.switches.now c.loop-switch.switch-index none).source.0 true ∙ long;
      sources = sources_more c.args.switches.now c.loop-switch.switch-index none c.loop-switch.sources.items c.loop-switch-test.true (omega arith) c.loop-switch.invariant.sources;
    }
