-- What is kept of rounds, and what routing answers.
use Rattle.std.specs.Prelude.{◌≡◌, ℕ, ◌+◌, ◌<◌, ◌++◌, List, [], ◌∷◌, Option, None, Some, length, nat_lt, slice_get, if◌then◌else◌}
use Rattle.ice_base.specs.declared.number.WireNo.{WireNo}
use Rattle.ice_base.specs.declared.number.NetNo.{NetNo}
use Rattle.ice_graph.specs.declared.tree.Tree.{Tree}
use Rattle.ice_graph.specs.Network.{Network}
use Rattle.ice_core.specs.declared.net.Net.{Net}
use Rattle.ice_core.specs.declared.log.RoundLog.{RoundLog}
use Rattle.ice_words.specs.Grips.{Shut}
use Rattle.ice_negotiate_defs.specs.Trees.{route_of}
use Rattle.ice_negotiate_defs.specs.Rounds.{Past, BeginsWith, IsFree, AreRoundsFrom, AreOverused, AreReachedBefore, IsUnreachable, IsFirstStop, kept_from}
use Rattle.ice_negotiate_defs.specs.Tallies.{AreTalliesFrom}
use Rattle.ice_negotiate_defs.specs.declared.fault.Routed.{Routed}
use Rattle.ice_negotiate_defs.specs.declared.fault.RouteFault.{RouteFault}
use Rattle.ice_negotiate_defs.specs.declared.fault.RouteFault.TheVariants.{Unreachable, GaveUp, NoMemory}

-- the wires from w on whose number is beyond the least, each with its number
abbrev pub beyond : ℕ → ℕ → List ℕ → List (WireNo × ℕ)
beyond least w [] = []
beyond least w (n ∷ numbers) = if nat_lt least n then (record { 0 = w }, n) ∷ beyond least (w + 1) numbers else beyond least (w + 1) numbers

-- these nets, each with its route among the trees
pub record AreTreesOf (trees : List Tree) (nets : List NetNo) (list : List (NetNo × Tree)) : Type 0 where
  pub long : length list ≡ length nets
  pub each : (k : ℕ) (net : NetNo) (tree : Tree) → slice_get list k ≡ Some (net, tree)
      → (slice_get nets k ≡ Some net) × ((after : Tree) → slice_get trees net.0 ≡ Some after → route_of tree ≡ route_of after)

-- the log of the round
pub record IsLog (past : Past) (log : RoundLog) : Type 0 where
  pub number : log.round ≡ past.round
  pub history : log.history.items ≡ beyond 0 0 past.history
  pub moved : AreTreesOf past.trees past.moved log.moved.items
  pub over : log.over.items ≡ beyond 1 0 past.counts

-- the logs of the rounds in order
pub record AreLogs (rounds : List Past) (logs : List RoundLog) : Type 0 where
  pub long : length logs ≡ length rounds
  pub each : (k : ℕ) (past : Past) (log : RoundLog) → slice_get rounds k ≡ Some past → slice_get logs k ≡ Some log → IsLog past log

-- the log of an opening: its number is 0, and it has the nets that keep a tree, each with it
pub record IsOpeningLog (kept : List (Option Tree)) (log : RoundLog) : Type 0 where
  pub number : log.round ≡ 0
  pub history : log.history.items ≡ []
  pub over : log.over.items ≡ []
  pub before : List Tree
  pub begins : BeginsWith (Some kept) before
  pub moved : AreTreesOf before (kept_from 0 kept) log.moved.items

-- the logs of the rounds in order, and before them that of the opening, if there is one
abbrev pub AreLogsFrom : Option (List (Option Tree)) → List Past → List RoundLog → Type 0
AreLogsFrom None rounds logs = AreLogs rounds logs
AreLogsFrom (Some kept) rounds logs = (first : RoundLog) × (rest : List RoundLog) × (logs ≡ first ∷ rest) × IsOpeningLog kept first × AreLogs rounds rest

-- the nets are routed: after rounds that each end with an overused wire comes one that ends with none, within those that are permitted
pub record AreRoutedFrom (graph : Network) (nets : List Net) (opening : Option (List (Option Tree))) (permitted : ℕ) (routed : Routed) : Type 0 where
  pub earlier : List Past
  pub last : Past
  pub rounds : AreRoundsFrom graph nets opening (earlier ++ last ∷ [])
  pub few : length earlier < permitted
  pub overused : AreOverused earlier
  pub free : IsFree last
  pub trees : routed.trees.items ≡ last.trees
  pub logs : AreLogsFrom opening (earlier ++ last ∷ []) routed.logs.items
  pub tallies : AreTalliesFrom graph.wires opening (earlier ++ last ∷ []) routed.tallies.items
  pub reached : AreReachedBefore graph nets (length nets)

-- each of the permitted rounds ends with an overused wire
pub record AllEndOverusedFrom (graph : Network) (nets : List Net) (opening : Option (List (Option Tree))) (permitted : ℕ) (logs : List RoundLog) (tallies : List Shut) : Type 0 where
  pub past : List Past
  pub rounds : AreRoundsFrom graph nets opening past
  pub all : length past ≡ permitted
  pub overused : AreOverused past
  pub logs_of : AreLogsFrom opening past logs
  pub tallies_of : AreTalliesFrom graph.wires opening past tallies
  pub reached : AreReachedBefore graph nets (length nets)

-- why the nets are not routed
abbrev pub IsFaultFrom : Network → List Net → Option (List (Option Tree)) → ℕ → RouteFault → Type 0
IsFaultFrom graph nets opening permitted (Unreachable net sink) = IsUnreachable graph nets net sink
IsFaultFrom graph nets opening permitted (GaveUp logs tallies) = AllEndOverusedFrom graph nets opening permitted logs.items tallies.items
IsFaultFrom graph nets opening permitted NoMemory = Unit {0}

-- ---- without an opening
abbrev pub AreRouted : Network → List Net → ℕ → Routed → Type 0
AreRouted graph nets permitted routed = AreRoutedFrom graph nets None permitted routed

abbrev pub AllEndOverused : Network → List Net → ℕ → List RoundLog → List Shut → Type 0
AllEndOverused graph nets permitted logs tallies = AllEndOverusedFrom graph nets None permitted logs tallies

abbrev pub IsFault : Network → List Net → ℕ → RouteFault → Type 0
IsFault graph nets permitted fault = IsFaultFrom graph nets None permitted fault

-- why a round stops
abbrev pub IsStop : Network → List Net → List NetNo → RouteFault → Type 0
IsStop graph nets moved (Unreachable net sink) = IsFirstStop graph nets moved net sink
IsStop graph nets moved (GaveUp logs tallies) = ⊥
IsStop graph nets moved NoMemory = Unit {0}
