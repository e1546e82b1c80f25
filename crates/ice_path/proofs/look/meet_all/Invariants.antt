use Rattle.std.proofs.Common.{◌≡◌, ◌≤◌, Bool, List, length, vec_capacity}
use Rattle.ice_core.specs.Congestion.{price}
use Rattle.ice_path.specs.Looks.{AreMet}
use Rattle.ice_path.specs.Queue.{IsQueue, queue_len}
use Rattle.ice_path.specs.Search.{Queues, Touches}
use Rattle.ice_path.proofs.look.meet_all.Given as goal

abbrev pub invariant-loop-target : goal.invariant-loop-target
invariant-loop-target l = record {
  met : AreMet l.targets l.target-index l.near;
  waits : (settled : List Bool) → Queues (price l.prices) settled l.near l.queue;
  order : IsQueue l.queue;
  room : queue_len l.queue ≤ length l.marked.items;
  capacity : l.queue.room ≡ l.fn.queue.room;
  touches : Touches l.near l.marked.items;
  space : vec_capacity l.marked ≡ vec_capacity l.fn.marked;
}
