use Rattle.std.proofs.Common.{ap, ◌∙◌}
use Rattle.std.proofs.lemmas.Result.{err_from_is_err_and}
use Rattle.ice_flow_build.proofs.Answering.{laid_out, lay_stops}
use Rattle.ice_pads.specs.Closings.{open_closing}
use Rattle.ice_flow_build.specs.Laid.{task_of}
use Rattle.ice_flow_build.proofs.laying.lay_out.Goals as goal

pub returns-in_err-layout-clause-fault : goal.returns-in_err-layout-clause-fault
returns-in_err-layout-clause-fault c =
    let p = err_from_is_err_and c.from_residual-in_err-layout.result c.from_residual-in_err-layout.ensures.1 in
    rw (p.1, p.2)
    (lay_stops (task_of c.args.index.now.chip.now c.args.name.now c.args.pcf.now c.args.sound.now) c.netlist-2.result.now c.open-closing.result c.in_ok-design.design c.in_ok-pads.pads c.in_err-layout.field-0.0
    c.netlist-2.ensures.netlist (c.open-closing.ensures ∙ ap open_closing c.netlist.ensures.netlist) c.in_ok-design.ensures.design c.in_ok-pads.ensures c.in_err-layout.ensures.fault)

pub returns-clause-laid : goal.returns-clause-laid
returns-clause-laid c =
    laid_out (task_of c.args.index.now.chip.now c.args.name.now c.args.pcf.now c.args.sound.now) c.netlist-2.result.now c.open-closing.result c.in_ok-design.design c.in_ok-pads.pads c.in_ok-layout.layout
    c.netlist-2.ensures.netlist (c.open-closing.ensures ∙ ap open_closing c.netlist.ensures.netlist) c.in_ok-design.ensures.design c.in_ok-pads.ensures c.in_ok-layout.ensures.design c.in_ok-layout.ensures.clusters c.in_ok-layout.ensures.pads c.in_ok-layout.ensures.placed
