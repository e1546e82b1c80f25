-- The tree of a task: that of its net in prices of the round which leave the net's own old wires out.
use Rattle.std.specs.Prelude.{◌≡◌, ℕ, ◌-◌, ◌<◌, List, Some, cond, length, slice_get, slice_index}
use Rattle.std.specs.List.{All}
use Rattle.ice_base.specs.declared.number.WireNo.{WireNo}
use Rattle.ice_graph.specs.declared.tree.Tree.{Tree}
use Rattle.ice_graph.specs.Network.{Network}
use Rattle.ice_core.specs.declared.prices.Prices.{Prices}
use Rattle.ice_core.specs.declared.round_prices.RoundPrices.{RoundPrices}
use Rattle.ice_core.specs.declared.task.Task.{Task}
use Rattle.ice_core.specs.Congestion.{ArePrices, price}
use Rattle.ice_core.specs.Moves.{stands_in}
use Rattle.ice_core.specs.Routes.{old_wires, IsOpening}
use Rattle.ice_negotiate_defs.specs.Trees.{AreOnce, AreReached, AreSinks, IsRooted, IsTree, route_of}

-- the others are those that hold a wire, less the net with these wires itself
pub record AreLeft (counts : List ℕ) (old : List WireNo) (others : List ℕ) : Type 0 where
  pub long : length others ≡ length counts
  pub each : (w : ℕ) → w < length counts → slice_index others w ≡ slice_index counts w - cond (stands_in old w) 1 0

-- the prices of a round for the net with these old wires
pub record AreTaskPrices (round : ℕ) (history counts : List ℕ) (old : List WireNo) (p : Prices) : Type 0 where
  pub number : p.round ≡ round
  pub histories : p.history.items ≡ history
  pub others : AreLeft counts old p.others.items

abbrev pub AreFor : RoundPrices → Task → Prices → Type 0
AreFor r task p = AreTaskPrices r.round r.history.items r.counts.items task.old.items p

-- the prices of the round for this task are within their bounds
abbrev pub KeepsBounds : RoundPrices → Task → Type 0
KeepsBounds r task = (p : Prices) → AreFor r task p → ArePrices p

-- root and targets of the task are wires of the graph, and each sink has a target
pub record IsTaskOf (graph : Network) (task : Task) : Type 0 where
  pub root : task.root.0 < graph.wires
  pub sinks : AreSinks graph.wires task.sinks.items

-- the tasks can be done in the prices of the round, whose counts are those that the tasks' old routes stand in
pub record ArePlayable (graph : Network) (r : RoundPrices) (tasks : List Task) : Type 0 where
  pub histories : length r.history.items ≡ graph.wires
  pub counts : length r.counts.items ≡ graph.wires
  pub opening : IsOpening (old_wires tasks) r.counts.items
  pub wires : All (IsTaskOf graph) tasks
  pub bounded : All (KeepsBounds r) tasks

-- the new tree of the task
abbrev pub IsNewTree : Network → RoundPrices → Task → Tree → Type 0
IsNewTree graph r task tree = (p : Prices) × AreFor r task p × IsTree graph.edges (price p) task.root task.sinks.items (route_of tree)

-- the tree was made for the task of this number
pub record IsMade (graph : Network) (r : RoundPrices) (tasks : List Task) (m : ℕ × Tree) : Type 0 where
  pub task : Task
  pub at : slice_get tasks m.0 ≡ Some task
  pub tree : IsNewTree graph r task m.1
  pub rooted : IsRooted graph task.root m.1.wires.items
  pub once : AreOnce m.1.wires.items
  pub reached : AreReached graph.edges task.root task.sinks.items
