-- What negotiation keeps from round to round.
use Rattle.std.specs.Prelude.{◌≡◌, ℕ, ◌+◌, ◌*◌, ◌≤◌, ◌<◌, ◌++◌, ◌⊎◌, Option, List, [], ◌∷◌, Some, length, slice_get, slice_index}
use Rattle.ice_base.specs.declared.number.NetNo.{NetNo}
use Rattle.ice_graph.specs.declared.tree.Tree.{Tree}
use Rattle.ice_graph.specs.Network.{Network}
use Rattle.ice_core.specs.declared.net.Net.{Net}
use Rattle.ice_core.specs.Moves.{IsOccupancy}
use Rattle.ice_words.specs.Grips.{Shut}
use Rattle.ice_negotiate_defs.specs.Trees.{AreReached}
use Rattle.ice_negotiate_defs.specs.Rounds.{Past, past_of, AreDifferent, AreRoundsFrom, AreOverused, AreReachedBefore, HoldOnce, IsOneOf, IsRound}
use Rattle.ice_negotiate_defs.specs.Logs.{AreLogsFrom}
use Rattle.ice_negotiate_defs.specs.Tallies.{AreTalliesFrom, IsTally}
use Rattle.ice_negotiate.specs.declared.rounds.State.{State}

-- what rounds begin from: the trees that nets keep, or nothing
abbrev pub Opening : Type 0
Opening = Option (List (Option Tree))

-- ---- what a state is, whatever its rounds began from
-- after this many rounds: histories and counts of all wires, the nets that move in the next round or that moved in the last, and the routes of all nets
pub record IsSound (graph : Network) (nets : List Net) (round : ℕ) (history counts : List ℕ) (moved : List NetNo) (trees : List Tree) : Type 0 where
  pub long : length history ≡ graph.wires
  pub low : (w : ℕ) → slice_index history w ≤ round * 65535
  pub counted : length counts ≡ graph.wires
  pub occupied : IsOccupancy counts trees
  pub many : length trees ≡ length nets
  pub apart : HoldOnce trees
  pub different : AreDifferent nets moved

-- the state before the round that follows on this many
abbrev pub IsReady : Network → List Net → ℕ → State → Type 0
IsReady graph nets round state = IsSound graph nets round state.prices.history.items state.prices.counts.items state.moved.items state.trees.items

-- the state behind that round, which left these counts
pub record IsPlayed (graph : Network) (nets : List Net) (round : ℕ) (state : State) (shut : Shut) : Type 0 where
  pub sound : IsSound graph nets round state.prices.history.items shut.closed state.moved.items state.trees.items
  pub opened : length shut.opened ≡ graph.wires
  pub room : length state.prices.counts.items ≡ graph.wires

-- ---- which rounds led to it
-- a round of this number that begins from the state goes on from the rounds before, and so does its tally
pub record GoesOn (graph : Network) (nets : List Net) (opening : Opening) (earlier : List Past) (round : ℕ) (state : State) : Type 0 where
  pub on : (trees : List Tree) (counts : List ℕ) → IsRound graph nets round state.prices.history.items state.prices.counts.items state.moved.items state.trees.items trees
      → length counts ≡ graph.wires → IsOccupancy counts trees → AreRoundsFrom graph nets opening (earlier ++ past_of round state.prices.history.items state.moved.items trees counts ∷ [])
  pub tallied : (trees : List Tree) (shut : Shut) → IsTally graph.wires state.moved.items state.trees.items trees shut
      → AreTalliesFrom graph.wires opening (earlier ++ past_of round state.prices.history.items state.moved.items trees shut.closed ∷ []) (state.tallies.items ++ shut ∷ [])

-- the nets stand by rising number
abbrev pub Rise : List NetNo → Type 0
Rise moved = (j k : ℕ) (one other : NetNo) → slice_get moved j ≡ Some one → slice_get moved k ≡ Some other → one.0 < other.0 → j < k

-- the nets that move first stand by rising number, and walks lead to all sinks of each other one
pub record MoveAtFirst (graph : Network) (nets : List Net) (moved : List NetNo) : Type 0 where
  pub rise : Rise moved
  pub others : (n : ℕ) (net : Net) → slice_get nets n ≡ Some net → IsOneOf moved n ⊎ AreReached graph.edges net.root net.sinks.items

-- this many rounds are done, each with an overused wire at its end, and the state is that before the next one
pub record IsBefore (graph : Network) (nets : List Net) (opening : Opening) (round : ℕ) (state : State) : Type 0 where
  pub earlier : List Past
  pub number : length earlier ≡ round
  pub rounds : AreRoundsFrom graph nets opening earlier
  pub next : GoesOn graph nets opening earlier (round + 1) state
  pub overused : AreOverused earlier
  pub logs : AreLogsFrom opening earlier state.logs.items
  pub tallies : AreTalliesFrom graph.wires opening earlier state.tallies.items
  pub first : round ≡ 0 → MoveAtFirst graph nets state.moved.items
  pub reached : 1 ≤ round → AreReachedBefore graph nets (length nets)

-- the round that the state leaves, with these counts
abbrev pub last_of : ℕ → State → List ℕ → Past
last_of round state counts = past_of round state.prices.history.items state.moved.items state.trees.items counts

-- after this many rounds that each ended with an overused wire one more is done, which left the state and these counts
pub record IsAfter (graph : Network) (nets : List Net) (opening : Opening) (round : ℕ) (state : State) (shut : Shut) : Type 0 where
  pub earlier : List Past
  pub number : length earlier ≡ round
  pub rounds : AreRoundsFrom graph nets opening (earlier ++ last_of (round + 1) state shut.closed ∷ [])
  pub overused : AreOverused earlier
  pub logs : AreLogsFrom opening (earlier ++ last_of (round + 1) state shut.closed ∷ []) state.logs.items
  pub tallies : AreTalliesFrom graph.wires opening (earlier ++ last_of (round + 1) state shut.closed ∷ []) (state.tallies.items ++ shut ∷ [])
  pub reached : AreReachedBefore graph nets (length nets)
