-- The words of a round at each moment of it: they show a state of the core.
use Rattle.std.specs.Prelude.{◌≡◌, ℕ, ◌≤◌, List, length, take}
use Rattle.std.specs.List.{All, AllByRecursion}
use Rattle.atomic_table.specs.Table.{State}
use Rattle.ice_graph.specs.declared.tree.Tree.{Tree}
use Rattle.ice_graph.specs.Network.{Network}
use Rattle.ice_core.specs.declared.round_prices.RoundPrices.{RoundPrices}
use Rattle.ice_core.specs.declared.task.Task.{Task}
use Rattle.ice_core.specs.Routes.{numbers, old_wires, tree_wires, wires_of}
use Rattle.ice_words.specs.declared.view.Part.{Part}
use Rattle.ice_words.specs.declared.view.View.{View}
use Rattle.ice_words.specs.Views.{no_part}
use Rattle.ice_words.specs.Rule.{Holds}
use Rattle.ice_words.specs.Deeds.{Deed, AreDeeds, done_all}
use Rattle.ice_words.specs.Showing.{IsShown, drawn_parts, state_of}
use Rattle.ice_worker.specs.Kits.{claims_of, Falls}
use Rattle.ice_worker.specs.Lawfulness.{IsWorkEnd}
use Rattle.ice_worker.specs.Tasks.{IsMade}
use Rattle.ice_negotiate_round.specs.Played.{AreTrees}

-- the new wires of each task are those of a tree that is made for it; a task that has no tree may have any
abbrev pub AreNewRoutes : Network → RoundPrices → List Task → List (List ℕ) → Type 0
AreNewRoutes graph r tasks news = (m : ℕ × Tree) → IsMade graph r tasks m → numbers m.1.wires.items ≡ wires_of news m.0

-- the part of a hand at some moment of a round: of the hand's steps, each of which meets the conditions of its call, so many are done, and behind all of them
-- the part is that of a worker that made these trees, and that was then answered None, or stopped at a task
pub record IsInPlay (graph : Network) (r : RoundPrices) (tasks : List Task) (p : Part) : Type 0 where
  pub deeds : List Deed
  pub may : AreDeeds (old_wires tasks) no_part deeds
  pub trees : List (ℕ × Tree)
  pub made : All (IsMade graph r tasks) trees
  pub falls : Falls (claims_of (old_wires tasks) trees)
  pub end : IsWorkEnd (old_wires tasks) trees (done_all no_part deeds)
  pub done : ℕ
  pub now : p ≡ done_all no_part (take done deeds)

-- where the rule holds of the words of a round, each part is one of a moment of it, and at most eight parts have drawn a number, the words show a state of the core
abbrev pub PlayShowsCore : Type 0
PlayShowsCore = (graph : Network) (r : RoundPrices) (tasks : List Task) (news : List (List ℕ)) (s : State ℕ View) → AreNewRoutes graph r tasks news → Holds (old_wires tasks) r.counts.items s
    → AllByRecursion (λ v. AllByRecursion (IsInPlay graph r tasks) v.parts) s.views → length (drawn_parts s.views) ≤ 8 → IsShown (old_wires tasks) news r.counts.items (state_of (old_wires tasks) news s)

-- the trees that a round gives are such new wires
abbrev pub TreesAreNewRoutes : Type 0
TreesAreNewRoutes = (graph : Network) (r : RoundPrices) (tasks : List Task) (news : List Tree) → AreTrees graph r tasks news → AreNewRoutes graph r tasks (tree_wires news)
