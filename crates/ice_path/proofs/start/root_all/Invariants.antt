use Rattle.std.proofs.Common.{◌≡◌, ◌≤◌, length, vec_capacity}
use Rattle.ice_path.specs.Aims.{bound_in, leads}
use Rattle.ice_path.specs.Queue.{IsQueue, queue_len}
use Rattle.ice_path.specs.Search.{Queues, Starts, Touches}
use Rattle.ice_path.proofs.start.root_all.Given as goal

abbrev pub invariant-loop-wire : goal.invariant-loop-wire
invariant-loop-wire l = record {
  starts : Starts l.tree (leads l.aim) l.wire-index l.labels l.fn.settled;
  waits : Queues (bound_in l.graph l.aim) l.fn.settled l.labels l.queue;
  order : IsQueue l.queue;
  room : queue_len l.queue ≤ length l.touched.items;
  capacity : l.queue.room ≡ l.fn.queue.room;
  touches : Touches l.labels l.touched.items;
  space : vec_capacity l.touched ≡ vec_capacity l.fn.touched;
}
