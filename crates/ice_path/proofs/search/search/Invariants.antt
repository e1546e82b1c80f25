use Rattle.std.proofs.Common.{◌≡◌, ◌≤◌, ◌+◌, ◌*◌, length, vec_capacity}
use Rattle.std.specs.Prelude.{IfSome}
use Rattle.ice_core.specs.Congestion.{price}
use Rattle.ice_path.specs.Aims.{bound_in, leads}
use Rattle.ice_path.specs.Queue.{IsQueue, queue_len}
use Rattle.ice_path.specs.Search.{IsNearest, Lists, Searches, Queues, Touches, opens, open_edges}
use Rattle.ice_path.proofs.search.search.Given as goal

abbrev pub invariant-loop-round : goal.invariant-loop-round
invariant-loop-round l = record {
  labels : length l.labels ≡ l.graph.wires;
  settled : length l.settled ≡ l.graph.wires;
  so_far : Searches l.graph.edges (price l.prices) l.tree (bound_in l.graph l.aim) (leads l.aim) 17046213234436 l._round l.labels l.settled;
  nearest : IsNearest (bound_in l.graph l.aim) l.aim.targets.now l.labels l.settled l.nearest;
  low : IfSome l.nearest (λ c. c ≤ 1048575 * 17046213234436);
  listed : Lists l.order.items l.settled;
  list : vec_capacity l.order ≡ vec_capacity l.fn.order;
  left : opens l.settled + l._round ≤ l.graph.wires;
  waits : Queues (bound_in l.graph l.aim) l.settled l.labels l.queue;
  order : IsQueue l.queue;
  room : queue_len l.queue + open_edges l.settled l.graph.edges ≤ l.queue.room;
  capacity : l.queue.room ≡ l.fn.queue.room;
  touches : Touches l.labels l.touched.items;
  space : vec_capacity l.touched ≡ vec_capacity l.fn.touched;
}
