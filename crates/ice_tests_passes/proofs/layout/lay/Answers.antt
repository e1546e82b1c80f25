use Rattle.std.proofs.Common.{◌≡◌, ap, arith, ◌∙◌}
use Rattle.ice_pads.specs.Closings.{open_closing}
use Rattle.ice_flow_build.proofs.Answering.{on_sites}
use Rattle.ice_flow_build.specs.Laid.{task_of}
use Rattle.ice_tests_passes.proofs.layout.lay.Goals as goal

pub returns : goal.returns
returns c =
    let laid = c.in_ok-layout.ensures in
    let stands = on_sites (task_of c.args.chip.now c.args.name.now c.args.pcf.now c.args.sound.now) c.netlist-2.result.now c.open-closing.result c.in_ok-packed.packed.design c.in_ok-pads.pads c.in_ok-layout.layout
    c.netlist-2.ensures.netlist (c.open-closing.ensures ∙ ap open_closing c.netlist.ensures.netlist) c.in_ok-packed.ensures.design c.in_ok-pads.ensures laid.design laid.clusters laid.pads laid.legal in
    let placed = c.designs_stand_on_their_chip.ensures c.args.name.now c.args.pcf.now c.in_ok-layout.layout stands in
    let none : placed.2.rams ≡ 0 = placed.4 in (placed.0, placed.2, omega (arith, none))
