use Rattle.std.proofs.Common.{refl, ◌++◌, drop, ◌+◌}
use Rattle.ice_anneal_nets.specs.Reads.{slots_reads}
use Rattle.ice_anneal_nets.proofs.Joining.{slots_more, slots_end, step_joined, end_joined}
use Rattle.ice_anneal_nets.proofs.reading.add_slots.Goals as goal

pub loop-slot-preserved : goal.loop-slot-preserved
loop-slot-preserved c =
    let cells = c.args.cells.now in
    let node = c.args.node in
    let slots = c.args.slots.now in
    let k = c.loop-slot.slot-index in
    step_joined c.loop-slot.reads.items c.add_slot.new.reads.items _ (slots_reads cells node (drop (k + 1) slots)) (slots_reads cells node (drop k slots)) (c.args.reads.now.items ++ slots_reads cells node slots)
    (slots_more cells node slots k _ _ c.loop-slot-test.true refl) c.in_ok-add_slot.ensures c.loop-slot.invariant

pub returns : goal.returns
returns c =
    let cells = c.args.cells.now in
    let node = c.args.node in
    let slots = c.args.slots.now in
    end_joined c.loop-slot.reads.items (slots_reads cells node (drop c.loop-slot.slot-index slots)) (c.args.reads.now.items ++ slots_reads cells node slots) (slots_end cells node slots c.loop-slot.slot-index c.loop-slot-test.false) c.loop-slot.invariant
