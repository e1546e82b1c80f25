use Rattle.std.proofs.Common.{◌≡◌, ◌≤◌, ◌+◌, vec_capacity}
use Rattle.ice_core.specs.Congestion.{price}
use Rattle.ice_path.specs.Aims.{bound_in, leads}
use Rattle.ice_path.specs.Queue.{IsQueue, queue_len}
use Rattle.ice_path.specs.Search.{Queues, Relaxes, Touches}
use Rattle.ice_path.proofs.search.relax.Given as goal

abbrev pub invariant-loop-row : goal.invariant-loop-row
invariant-loop-row l = record {
  relaxes : Relaxes l.rows (price l.prices) (leads l.aim) l.settled l.cost l.row-index l.fn.labels l.labels;
  waits : Queues (bound_in l.graph l.aim) l.settled l.labels l.queue;
  order : IsQueue l.queue;
  len : queue_len l.queue ≤ queue_len l.fn.queue + l.row-index;
  capacity : l.queue.room ≡ l.fn.queue.room;
  touches : Touches l.labels l.touched.items;
  space : vec_capacity l.touched ≡ vec_capacity l.fn.touched;
}
