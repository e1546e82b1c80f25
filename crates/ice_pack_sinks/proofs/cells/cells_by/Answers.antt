use Rattle.std.proofs.Common.{◌++◌, ◌∙◌, false, true, ap, map, arith}
use Rattle.std.proofs.lemmas.List.{take_all}
use Rattle.ice_cells.specs.Packed.{cell_of, constant_if}
use Rattle.ice_pack_sinks.specs.Plans.{plan}
use Rattle.ice_pack_sinks.proofs.Along.{cell_more}
use Rattle.ice_pack_sinks.proofs.cells.cells_by.Goals as goal

pub loop-j-preserved : goal.loop-j-preserved
loop-j-preserved c =
    cell_more (plan c.args.slices.now) c.args.cells.now c.args.openers.now c.loop-j.j-index _ _ _ _ (omega arith) c.loop-j.invariant c.in_ok-push.ensures.items c.cell_of.ensures

pub returns : goal.returns
returns c =
    let opened = c.loop-j.invariant ∙ ap (map (cell_of (plan c.args.slices.now) c.args.cells.now)) (take_all c.loop-j.j-index c.args.openers.now (omega arith)) in
    c.in_ok-push_constant-2.ensures ∙ ap (λ made. made ++ constant_if c.needs_one.result true) c.in_ok-push_constant.ensures
    ∙ (λ i. (opened i ++ constant_if (c.needs_zero.ensures i) false) ++ constant_if (c.needs_one.ensures i) true)
