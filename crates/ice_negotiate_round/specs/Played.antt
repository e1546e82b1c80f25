-- What workers leave, and what a round gives, task by task.
use Rattle.std.specs.Prelude.{◌≡◌, ◌≢◌, ℕ, ◌+◌, ◌≤◌, ◌<◌, ◌⊎◌, false, List, ◌∷◌, Option, None, Some, length, map, cond, nat_eq, nat_lt, if◌then◌else◌, slice_get, slice_index}
use Rattle.std.specs.List.{All, sum_by, fold}
use Rattle.ice_base.specs.declared.number.WireNo.{WireNo}
use Rattle.ice_graph.specs.declared.tree.Tree.{Tree}
use Rattle.ice_graph.specs.Network.{Network}
use Rattle.ice_core.specs.declared.round_prices.RoundPrices.{RoundPrices}
use Rattle.ice_core.specs.declared.task.Task.{Task}
use Rattle.ice_core.specs.Routes.{old_wires, times, tree_wires}
use Rattle.ice_negotiate_defs.specs.Trees.{AreReached, IsCause}
use Rattle.ice_negotiate_defs.specs.declared.stop.TreeStop.TheVariants.{Unreachable as Cut}
use Rattle.ice_words.specs.declared.view.Claim.{Claim}
use Rattle.ice_words.specs.declared.view.Part.{Part}
use Rattle.ice_words.specs.Views.{claim_of}
use Rattle.ice_words.specs.Grips.{Shut}
use Rattle.ice_worker.specs.declared.stop.WorkStop.{WorkStop}
use Rattle.ice_worker.specs.declared.stop.WorkStop.TheVariants.{Unreachable, NoMemory}
use Rattle.ice_worker.specs.Tasks.{IsMade}
use Rattle.ice_worker.specs.Kits.{IsKitOf, Falls, claims_of, done_part, made_by}
use Rattle.ice_negotiate_round.specs.declared.jobs.Done.{Done}

-- ---- what a worker leaves
-- the part of a worker that did tasks with these claims, and then was answered None, or stopped at a task
abbrev pub part_by : List Claim → Option WorkStop → Part
part_by cs None = done_part cs
part_by cs (Some (Unreachable task sink)) = record { claims = claim_of task ∷ cs; ended = false }
part_by cs (Some NoMemory) = record { claims = cs; ended = false }

abbrev pub part_of : List (List ℕ) → Done → Part
part_of olds d = part_by (claims_of olds (made_by d.kit)) d.stop

abbrev pub parts_of : List (List ℕ) → List Done → List Part
parts_of olds dones = map (part_of olds) dones

-- the task has a sink to which no walk leads: its first such sink, and the first target of it
abbrev pub IsCut : Network → List Task → ℕ → WireNo → Type 0
IsCut graph tasks task sink = (t : Task) × (slice_get tasks task ≡ Some t) × IsCause graph.edges t.root t.sinks.items (Cut sink)

-- what a worker leaves: trees of tasks, and a task that can't be done where it stopped
pub record IsLeft (graph : Network) (r : RoundPrices) (tasks : List Task) (olds : List (List ℕ)) (d : Done) : Type 0 where
  pub made : All (IsMade graph r tasks) (made_by d.kit)
  pub falls : Falls (claims_of olds (made_by d.kit))
  pub memory : d.stop ≢ Some NoMemory
  pub stop : (task : ℕ) (sink : WireNo) → d.stop ≡ Some (Unreachable task sink) → IsCut graph tasks task sink
  pub kit : IsKitOf graph d.kit

-- no worker stopped
abbrev pub NoneStopped : List Done → Type 0
NoneStopped dones = All (λ (d : Done). d.stop ≡ None) dones

-- of two reasons to stop the one at the lesser task
abbrev pub sooner : Option WorkStop → Option WorkStop → Option WorkStop
sooner None b = b
sooner (Some (Unreachable t s)) None = Some (Unreachable t s)
sooner (Some (Unreachable t s)) (Some (Unreachable u r)) = if nat_lt u t then Some (Unreachable u r) else Some (Unreachable t s)
sooner (Some (Unreachable t s)) (Some NoMemory) = Some NoMemory
sooner (Some NoMemory) b = Some NoMemory

abbrev pub soonest : List Done → Option WorkStop
soonest dones = fold (λ (best : Option WorkStop) (d : Done). sooner best d.stop) None dones

-- ---- trees by task
-- how often a task stands among the trees
abbrev pub made_at : ℕ → List (ℕ × Tree) → ℕ
made_at t trees = sum_by (λ (m : ℕ × Tree). cond (nat_eq m.0 t) 1 0) trees

-- how often a task stands among all trees
abbrev pub made_in : ℕ → List Done → ℕ
made_in t dones = sum_by (λ (d : Done). made_at t (made_by d.kit)) dones

-- each task is still wanted, or has its tree
abbrev pub Covers : Network → RoundPrices → List Task → (ℕ → ℕ) → List Tree → Type 0
Covers graph r tasks wanted news = (t : ℕ) (tree : Tree) → slice_get news t ≡ Some tree → (1 ≤ wanted t) ⊎ IsMade graph r tasks (t, tree)

-- a tree for each task: its new one
pub record AreTrees (graph : Network) (r : RoundPrices) (tasks : List Task) (news : List Tree) : Type 0 where
  pub long : length news ≡ length tasks
  pub each : (t : ℕ) (tree : Tree) → slice_get news t ≡ Some tree → IsMade graph r tasks (t, tree)

-- ---- what a round gives
-- a tree for each task, and counts in which the new trees stand in the place of the old routes, by as many claims, releases and holds as these need
pub record IsPlayed (graph : Network) (r : RoundPrices) (tasks : List Task) (news : List Tree) (shut : Shut) : Type 0 where
  pub trees : AreTrees graph r tasks news
  pub opened : shut.opened ≡ r.counts.items
  pub long : length shut.closed ≡ length r.counts.items
  pub closed : (w : ℕ) → w < length r.counts.items → slice_index shut.closed w + sum_by (times w) (old_wires tasks) ≡ slice_index r.counts.items w + sum_by (times w) (tree_wires news)
  pub claims : shut.claims ≡ length tasks
  pub releases : shut.releases ≡ sum_by length (old_wires tasks)
  pub holds : shut.holds ≡ sum_by length (tree_wires news)

-- why there is no round: the first task with a sink to which no walk leads, with the first target of its first such sink
abbrev pub IsTaskStop : Network → List Task → WorkStop → Type 0
IsTaskStop graph tasks (Unreachable task sink) = IsCut graph tasks task sink × ((j : ℕ) (u : Task) → j < task → slice_get tasks j ≡ Some u → AreReached graph.edges u.root u.sinks.items)
IsTaskStop graph tasks NoMemory = Unit {0}
