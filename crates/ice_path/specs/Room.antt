-- The room that a search has, and the path that it left.
use Rattle.std.specs.Prelude.{◌≡◌, ℕ, ◌+◌, ◌≤◌, ◌<◌, Option, List, [], Some, None, cond, false, length, slice_get, vec_capacity}
use Rattle.ice_base.specs.declared.number.WireNo.{WireNo}
use Rattle.ice_graph.specs.Network.{Network}
use Rattle.ice_graph.specs.declared.edge.Edge.{Edge}
use Rattle.ice_path.specs.declared.scratch.Scratch.TheInside.{Inside}
use Rattle.ice_path.specs.Queue.{IsEmpty, IsQueue, queue_len}
use Rattle.ice_path.specs.Search.{label, done}

-- for graphs of how many wires and how many edges there is room, and of the last search the path if it found one and the wires that it settled
pub record Room : Type 0 where
  pub wires : ℕ
  pub edges : ℕ
  pub path : Option (List Edge)
  pub settled : List WireNo

-- the room is for this graph
abbrev pub IsFor : Network → Room → Type 0
IsFor graph room = (room.wires ≡ graph.wires) × (room.edges ≡ length graph.edges)

-- each wire of the tree is below n
abbrev pub AreWires : ℕ → List WireNo → Type 0
AreWires n tree = (k : ℕ) (v : WireNo) → slice_get tree k ≡ Some v → v.0 < n

abbrev pub room_of : Inside → Room
room_of a = record { wires = length a.labels.items; edges = a.edges; path = cond a.found (Some a.path.items) None; settled = a.order.items }

-- between two searches no wire has a label, none is settled, touched or near a target, the queue is empty, and a path of all wires and a list of them have room
pub record IsClear (a : Inside) : Type 0 where
  pub long : length a.done.items ≡ length a.labels.items
  pub fresh : (w : ℕ) → label a.labels.items w ≡ None
  pub open_wires : (w : ℕ) → done a.done.items w ≡ false
  pub touched : a.touched.items ≡ []
  pub space : length a.labels.items ≤ vec_capacity a.touched
  pub queue : IsEmpty a.queue
  pub len : queue_len a.queue ≡ 0
  pub order : IsQueue a.queue
  pub room : length a.labels.items + a.edges ≤ a.queue.room
  pub path : length a.labels.items ≤ vec_capacity a.path
  pub list : length a.labels.items ≤ vec_capacity a.order
  pub near : length a.ahead.near.items ≡ length a.labels.items
  pub far : (w : ℕ) → label a.ahead.near.items w ≡ None
  pub marked : a.ahead.marked.items ≡ []
  pub marks : length a.labels.items ≤ vec_capacity a.ahead.marked
  pub beyond : length a.ahead.beyond.items ≡ 64
