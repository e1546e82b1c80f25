use Rattle.std.proofs.Common.{◌++◌, ◌∙◌, ap, arith}
use Rattle.ice_cells.specs.Packed.{carry_by}
use Rattle.ice_pack_sinks.specs.Plans.{plan}
use Rattle.ice_pack_sinks.proofs.Along.{carry_more, carries_end}
use Rattle.ice_pack_sinks.proofs.carries.carries_from.Goals as goal

pub loop-j-preserved : goal.loop-j-preserved
loop-j-preserved c =
    let cell = c.index-cells-j.result in
    let now = c.in_ok-push_carry.ensures ∙ ap (λ home. c.loop-j.carries.items ++ carry_by (plan c.args.slices.now) home cell.kind cell.ins cell.outs) c.home_at.ensures in
    carry_more (plan c.args.slices.now) c.args.homes.now c.args.cells.now c.loop-j.j cell c.loop-j.carries.items _ (omega arith) c.index-cells-j.is now ∙ c.loop-j.invariant

pub returns : goal.returns
returns c = carries_end (plan c.args.slices.now) c.args.homes.now c.args.cells.now c.loop-j.j c.loop-j.carries.items (omega arith) ∙ c.loop-j.invariant
