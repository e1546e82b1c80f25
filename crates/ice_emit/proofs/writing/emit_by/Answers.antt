use Rattle.std.proofs.Common.{Bool, List, length, map, sym, subst}
use Rattle.ice_chip.specs.Database.{Parts}
use Rattle.ice_emit_nets.specs.Plans.{plan_of}
use Rattle.ice_emit.specs.Placed.{IsPlacedOn}
use Rattle.ice_place_defs.specs.Plan.{Plan, plan_in}
use Rattle.ice_graph.specs.Leading.{route_of}
use Rattle.ice_emit.proofs.Meant.{are_wired, are_meant, have_no_loop, have_ring}
use Rattle.ice_emit.proofs.Ready.{written_for}
use Rattle.ice_emit.proofs.writing.emit_by.Goals as goal

pub settings_in-requires-clause-placed : goal.settings_in-requires-clause-placed
settings_in-requires-clause-placed c =
    let parts = c.args.index.now.chip.now in
    let plan = plan_of c.args.design.now c.args.clusters.now c.args.placement.now c.args.pads.now in
    let rams = length c.args.rams.now in
    subst (λ (q : Parts). IsPlacedOn q (plan_in c.placed_of-placed.result) c.pullups.result.now rams) (sym c.placed_of-placed.ensures.chip)
    (subst (λ (p : Plan). IsPlacedOn parts p c.pullups.result.now rams) (sym c.placed_of-placed.ensures.plan)
    (subst (λ (u : List Bool). IsPlacedOn parts plan u rams) (sym c.pullups.ensures) c.requires.placed))

pub returns : goal.returns
returns c =
    let parts = c.args.index.now.chip.now in
    let plan = plan_of c.args.design.now c.args.clusters.now c.args.placement.now c.args.pads.now in
    let written = written_for parts c.placed_of-placed.result.chip.now plan (plan_in c.placed_of-placed.result)
    c.args.pads.now.pullups c.pullups.result.now c.args.rams.now c.args.trees.now c.in_ok-rows.rows.items c.as_slice.result.now c.as_slice-2.result.now c.in_ok-made.made.items c.as_slice-3.result.now c.in_ok-bits.bits
    c.placed_of-placed.ensures.chip c.placed_of-placed.ensures.plan c.pullups.ensures c.as_slice.ensures.value c.as_slice-2.ensures.value c.as_slice-3.ensures.value c.in_ok-rows.ensures c.in_ok-made.ensures c.in_ok-bits.ensures in
    record {
      written = written;
      driven = are_wired parts c.requires.placed.0 plan c.args.pads.now.pullups c.args.rams.now (map route_of c.args.trees.now) c.in_ok-bits.bits c.roots_are_led_to_pins.ensures c.designs_are_set.ensures.apart c.designs_are_set.ensures.set
          c.wanted_rows_drive.ensures c.are_formed.ensures c.requires.placed.1 c.requires.placed.2 c.requires.trees written;
      loopless = have_no_loop parts c.requires.placed.0 plan c.args.pads.now.pullups c.args.rams.now (map route_of c.args.trees.now) c.in_ok-bits.bits c.roots_are_led_to_pins.ensures c.designs_are_set.ensures.apart c.designs_are_set.ensures.set
          c.wanted_rows_drive.ensures c.are_formed.ensures c.requires.placed.1 c.requires.placed.2 c.requires.trees written c.bits_have_no_loop.ensures;
      ring = have_ring parts c.requires.placed.0 plan c.args.pads.now.pullups c.args.rams.now (map route_of c.args.trees.now) c.in_ok-bits.bits c.roots_are_led_to_pins.ensures c.designs_are_set.ensures.apart c.designs_are_set.ensures.set
          c.wanted_rows_drive.ensures c.are_formed.ensures c.requires.placed.1 c.requires.placed.2 c.requires.trees written c.faulty_bits_have_a_ring.ensures;
      realised = are_meant parts c.requires.placed.0 plan c.args.pads.now.pullups c.args.rams.now (map route_of c.args.trees.now) c.in_ok-bits.bits c.roots_are_led_to_pins.ensures c.designs_are_set.ensures.apart c.designs_are_set.ensures.set
          c.wanted_rows_drive.ensures c.are_formed.ensures c.requires.placed.1 c.requires.placed.2 c.requires.trees written c.bits_realise_their_design.ensures;
    }
