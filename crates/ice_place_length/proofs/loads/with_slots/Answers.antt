use Rattle.std.proofs.Common.{refl, drop, ◌+◌}
use Rattle.ice_place_defs.specs.Loads.{slots_give, cell_loads}
use Rattle.ice_place_length.specs.Grown.{box_in}
use Rattle.ice_place_length.proofs.Growing.{slots_more, slots_end, step_grown, end_grown}
use Rattle.ice_place_length.proofs.loads.with_slots.Goals as goal

pub loop-i-preserved : goal.loop-i-preserved
loop-i-preserved c =
    let cells = c.args.cells.now in
    let t = c.args.tile in
    let slots = c.args.slots.now in
    let i = c.loop-i.i in
    step_grown c.args.root (box_in c.args.span) (box_in c.loop-i.wide) (box_in c.with_slot-wide.result) _ (slots_give cell_loads cells t (i + 1) (drop (i + 1) slots)) (slots_give cell_loads cells t i (drop i slots))
    (slots_give cell_loads cells t 0 slots) (slots_more cells t i i slots _ _ c.loop-i-test.true refl refl) (c.with_slot-wide.ensures i) c.loop-i.invariant

pub returns : goal.returns
returns c =
    let cells = c.args.cells.now in
    let t = c.args.tile in
    let slots = c.args.slots.now in
    let i = c.loop-i.i in
    end_grown c.args.root (box_in c.args.span) (box_in c.loop-i.wide) (slots_give cell_loads cells t i (drop i slots)) (slots_give cell_loads cells t 0 slots) (slots_end cells t i slots c.loop-i-test.false) c.loop-i.invariant
