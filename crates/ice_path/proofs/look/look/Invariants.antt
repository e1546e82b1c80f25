use Rattle.std.proofs.Common.{◌≡◌, ◌≤◌, ◌+◌, ◌*◌, ℕ, Option, List, length, vec_capacity}
use Rattle.ice_base.specs.declared.number.WireNo.{WireNo as Wire}
use Rattle.ice_core.specs.Congestion.{price}
use Rattle.ice_path.specs.Aims.{RestFalls}
use Rattle.ice_path.specs.Looks.{AreLed, Spreads}
use Rattle.ice_path.specs.Queue.{IsQueue, queue_len}
use Rattle.ice_path.specs.Search.{Queues, Touches}
use Rattle.ice_path.proofs.look.look.Given as goal

abbrev pub invariant-loop-step : goal.invariant-loop-step
invariant-loop-step l = record {
  near : length l.near ≡ l.graph.wires;
  settled : length l.settled ≡ l.graph.wires;
  spreads : Spreads l.graph.edges (price l.prices) l.far l.near l.settled;
  led : (targets : List Wire) (rest : ℕ → Option ℕ) → RestFalls l.graph.edges rest → AreLed targets rest l.fn.near → AreLed targets rest l.near;
  few : l._step ≤ l.widened;
  some : 1 ≤ l.far;
  low : l.far ≤ 1 + l._step * 17046213234436;
  waits : Queues (price l.prices) l.settled l.near l.queue;
  order : IsQueue l.queue;
  room : queue_len l.queue ≤ length l.marked.items;
  capacity : l.queue.room ≡ l.fn.queue.room;
  touches : Touches l.near l.marked.items;
  space : vec_capacity l.marked ≡ vec_capacity l.fn.marked;
}
