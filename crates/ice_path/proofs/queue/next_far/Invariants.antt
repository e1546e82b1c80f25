use Rattle.std.proofs.Common.{◌≡◌, ◌≤◌}
use Rattle.std.specs.BinaryHeap.{IsHeap, heap_items, heap_len, heap_capacity}
use Rattle.ice_path.specs.Queue.{sooner}
use Rattle.ice_path.proofs.Queueing.{GoesDown}
use Rattle.ice_path.proofs.queue.next_far.Given as goal

abbrev pub invariant-loop-wire : goal.invariant-loop-wire
invariant-loop-wire l = record {
  order : IsHeap sooner (heap_items l.far);
  left : GoesDown l.settled (heap_items l.initial.far) (heap_items l.far);
  shorter : heap_len l.far ≤ heap_len l.initial.far;
  capacity : heap_capacity l.far ≡ heap_capacity l.initial.far;
}

abbrev pub decreases-loop-wire : goal.decreases-loop-wire
decreases-loop-wire l = heap_len l.far
