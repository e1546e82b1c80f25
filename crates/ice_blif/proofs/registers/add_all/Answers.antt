use Rattle.std.proofs.Common.{length, ◌∙◌}
use Rattle.std.specs.Vec.Iter.{into_iter_items, into_iter_len}
use Rattle.ice_blif.proofs.Taking.{IsStep, step, first_read, left_long}
use Rattle.ice_blif.proofs.registers.add_all.Goals as goal

pub add-requires-clause-read : goal.add-requires-clause-read
add-requires-clause-read c =
    let loop = c.loop-cell in
    first_read (length loop.netlist.names) (into_iter_items loop.cell-iterator) c.in-Some.cell (into_iter_items c.next.new.self) c.in-Some.ensures.steps.0 loop.invariant.read

pub loop-cell-preserved : goal.loop-cell-preserved
loop-cell-preserved c =
    let loop = c.loop-cell in
    let all = into_iter_items loop.cell-iterator in
    let left = into_iter_items c.next.new.self in
    let made : IsStep loop.netlist c.add.new.netlist all left =
    step loop.netlist c.add.new.netlist all c.in-Some.cell left c.in-Some.ensures.steps.0 c.in_ok-add.ensures.netlist c.in_ok-add.ensures.added in
    record {
      said = loop.invariant.said ∙ made.said;
      long = left_long all c.in-Some.cell left (into_iter_len loop.cell-iterator) (into_iter_len c.next.new.self) c.in-Some.ensures.steps.0 c.in-Some.ensures.steps.1 loop.invariant.long;
      few = made.few loop.invariant.few;
      read = made.read loop.invariant.read;
    }
