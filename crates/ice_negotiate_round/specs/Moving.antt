-- A round net by net: the tasks of the nets that move, and their trees in the place of the old ones.
use Rattle.std.specs.Prelude.{◌≡◌, ℕ, List, [], ◌∷◌, Some, length, slice_get, slice_set}
use Rattle.ice_base.specs.declared.number.NetNo.{NetNo}
use Rattle.ice_graph.specs.declared.tree.Tree.{Tree}
use Rattle.ice_core.specs.declared.net.Net.{Net}
use Rattle.ice_core.specs.declared.task.Task.{Task}
use Rattle.ice_negotiate_defs.specs.declared.fault.RouteFault.{RouteFault}
use Rattle.ice_negotiate_defs.specs.declared.fault.RouteFault.TheVariants.{Unreachable, NoMemory}
use Rattle.ice_worker.specs.declared.stop.WorkStop.{WorkStop}
use Rattle.ice_worker.specs.declared.stop.WorkStop.TheVariants.{Unreachable as Cut, NoMemory as Memory}

-- the task of a net with this route
pub record IsTaskFor (net : Net) (tree : Tree) (number : NetNo) (task : Task) : Type 0 where
  pub named : task.net ≡ number
  pub root : task.root ≡ net.root
  pub sinks : task.sinks.items ≡ net.sinks.items
  pub old : task.old.items ≡ tree.wires.items

-- the tasks of the nets that move, in order
pub record AreTasksOf (nets : List Net) (trees : List Tree) (moved : List NetNo) (tasks : List Task) : Type 0 where
  pub long : length tasks ≡ length moved
  pub each : (k : ℕ) (number : NetNo) (net : Net) (tree : Tree) (task : Task) → slice_get moved k ≡ Some number → slice_get nets number.0 ≡ Some net → slice_get trees number.0 ≡ Some tree → slice_get tasks k ≡ Some task
      → IsTaskFor net tree number task

-- a list by net number, with new items of the nets that moved in the place of their old ones
abbrev pub placed : {A : Type 0} → List A → List NetNo → List A → List A
placed items [] news = items
placed items (number ∷ moved) [] = items
placed items (number ∷ moved) (new ∷ news) = slice_set (placed items moved news) number.0 new

-- the fault of the net that moves by this task
abbrev pub IsFaultAt : List NetNo → WorkStop → RouteFault → Type 0
IsFaultAt moved (Cut task sink) fault = (number : NetNo) × (slice_get moved task ≡ Some number) × (fault ≡ Unreachable number sink)
IsFaultAt moved Memory fault = fault ≡ NoMemory
