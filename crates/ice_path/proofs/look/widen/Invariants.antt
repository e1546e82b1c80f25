use Rattle.std.proofs.Common.{◌≡◌, ◌≤◌, Bool, List, length, vec_capacity}
use Rattle.ice_core.specs.Congestion.{price}
use Rattle.ice_path.specs.Looks.{Widens}
use Rattle.ice_path.specs.Queue.{IsQueue, queue_len}
use Rattle.ice_path.specs.Search.{Queues, Touches}
use Rattle.ice_path.proofs.look.widen.Given as goal

abbrev pub invariant-loop-row : goal.invariant-loop-row
invariant-loop-row l = record {
  widens : Widens l.rows l.cost l.row-index l.fn.near l.near;
  waits : (settled : List Bool) → Queues (price l.prices) settled l.fn.near l.fn.queue → Queues (price l.prices) settled l.near l.queue;
  order : IsQueue l.queue;
  room : queue_len l.queue ≤ length l.marked.items;
  capacity : l.queue.room ≡ l.fn.queue.room;
  touches : Touches l.near l.marked.items;
  space : vec_capacity l.marked ≡ vec_capacity l.fn.marked;
}
