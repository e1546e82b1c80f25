-- The events of a round: when all workers have ended, the new trees of the nets that move, beside the others' old ones, are the round.
use Rattle.std.specs.Prelude.{◌≡◌, ℕ, ◌≤◌, true, List, length, map}
use Rattle.std.specs.List.{sum_by, AllByRecursion}
use Rattle.ice_base.specs.declared.number.NetNo.{NetNo}
use Rattle.ice_graph.specs.declared.tree.Tree.{Tree}
use Rattle.ice_graph.specs.Network.{Network}
use Rattle.ice_core.specs.declared.event.Event.{Event}
use Rattle.ice_core.specs.declared.net.Net.{Net}
use Rattle.ice_core.specs.declared.round_prices.RoundPrices.{RoundPrices}
use Rattle.ice_core.specs.declared.task.Task.{Task}
use Rattle.ice_core.specs.Machine.{CoreState, IsStart, Leads}
use Rattle.ice_core.specs.Moments.{routes_of}
use Rattle.ice_core.specs.Moves.{IsOccupancy}
use Rattle.ice_core.specs.Routes.{old_wires, sum_below, tree_wires, wires_of}
use Rattle.ice_negotiate_defs.specs.Rounds.{AreBounded, AreDifferent, AreNets, HoldOnce, IsRound}
use Rattle.ice_negotiate_round.specs.Moving.{AreTasksOf, placed}
use Rattle.ice_negotiate_round.specs.Played.{AreTrees}

-- nets, their trees and the counts of these as a round begins; the nets that move, a task for each, and its tree in the prices of the round
pub record IsRoundOf (graph : Network) (nets : List Net) (r : RoundPrices) (trees : List Tree) (moved : List NetNo) (tasks : List Task) (news : List Tree) : Type 0 where
  pub routable : AreNets graph nets
  pub few : length nets ≤ 65536
  pub many : length trees ≡ length nets
  pub counts : IsOccupancy r.counts.items trees
  pub once : HoldOnce trees
  pub bounded : AreBounded graph r.round r.history.items r.counts.items
  pub different : AreDifferent nets moved
  pub each : AreTasksOf nets trees moved tasks
  pub made : AreTrees graph r tasks news

-- allowed events led the workers of the core to the state t, in which all have ended
pub record HavePlayed (r : RoundPrices) (tasks : List Task) (news : List Tree) (t : CoreState) : Type 0 where
  pub start : CoreState
  pub begins : IsStart r.counts.items start
  pub events : List Event
  pub leads : Leads (old_wires tasks) (tree_wires news) start events t
  pub some_of : 1 ≤ length t.workers
  pub ended : AllByRecursion (λ u. u.ended ≡ true) t.workers

-- each task was claimed by one worker, whatever is counted over tasks, its route is its new tree, and the counts are of all nets' trees; these are the round
pub record IsPlayedBy (graph : Network) (nets : List Net) (r : RoundPrices) (trees : List Tree) (moved : List NetNo) (tasks : List Task) (news : List Tree) (t : CoreState) : Type 0 where
  pub claimed : (f : ℕ → ℕ) → sum_by (λ u. sum_by f u.claimed) t.workers ≡ sum_below (length tasks) f
  pub routes : AllByRecursion (λ u. routes_of (tree_wires news) u ≡ map (wires_of (tree_wires news)) u.claimed) t.workers
  pub counts : IsOccupancy t.counts (placed trees moved news)
  pub round : IsRound graph nets r.round r.history.items r.counts.items moved trees (placed trees moved news)

abbrev pub EventsMakeRounds : Type 0
EventsMakeRounds = (graph : Network) (nets : List Net) (r : RoundPrices) (trees : List Tree) (moved : List NetNo) (tasks : List Task) (news : List Tree) (t : CoreState) → IsRoundOf graph nets r trees moved tasks news → HavePlayed r tasks news t
    → IsPlayedBy graph nets r trees moved tasks news t
