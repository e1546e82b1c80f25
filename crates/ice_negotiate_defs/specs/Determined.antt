-- The laws of rounds: they are the only ones of their nets, and so each answer leaves out the others.
use Rattle.std.specs.Prelude.{◌≡◌, ℕ, List, Option, None, Some, length, slice_get}
use Rattle.ice_base.specs.declared.number.WireNo.{WireNo}
use Rattle.ice_base.specs.declared.number.NetNo.{NetNo}
use Rattle.ice_graph.specs.declared.tree.Tree.{Tree}
use Rattle.ice_graph.specs.Network.{Network}
use Rattle.ice_core.specs.declared.net.Net.{Net}
use Rattle.ice_core.specs.declared.log.RoundLog.{RoundLog}
use Rattle.ice_words.specs.Grips.{Shut}
use Rattle.ice_negotiate_defs.specs.Trees.{IsTree, route_of}
use Rattle.ice_negotiate_defs.specs.Rounds.{Past, AreRoundsFrom, IsUnreachable}
use Rattle.ice_negotiate_defs.specs.Logs.{AreRoutedFrom, AllEndOverusedFrom}
use Rattle.ice_negotiate_defs.specs.declared.fault.Routed.{Routed}

-- the trees have the same routes, net by net
pub record AreAlike (one other : List Tree) : Type 0 where
  pub long : length one ≡ length other
  pub each : (n : ℕ) (a b : Tree) → slice_get one n ≡ Some a → slice_get other n ≡ Some b → route_of a ≡ route_of b

-- two rounds leave the same
pub record AreSame (one other : Past) : Type 0 where
  pub round : one.round ≡ other.round
  pub history : one.history ≡ other.history
  pub moved : one.moved ≡ other.moved
  pub counts : one.counts ≡ other.counts
  pub routes : AreAlike one.trees other.trees

-- they leave the same but for the nets that moved
pub record LeaveSame (one other : Past) : Type 0 where
  pub round : one.round ≡ other.round
  pub history : one.history ≡ other.history
  pub counts : one.counts ≡ other.counts
  pub routes : AreAlike one.trees other.trees

-- the rounds of nets are determined: two lists of them from one opening are the same as far as both go
abbrev pub RoundsAreUnique : Type 0
RoundsAreUnique = (graph : Network) (nets : List Net) (opening : Option (List (Option Tree))) (rounds others : List Past) → AreRoundsFrom graph nets opening rounds → AreRoundsFrom graph nets opening others
    → (k : ℕ) (one other : Past) → slice_get rounds k ≡ Some one → slice_get others k ≡ Some other → AreSame one other

-- nets that are routed have no sink that can't be reached
abbrev pub RoutedAreReached : Type 0
RoutedAreReached = (graph : Network) (nets : List Net) (opening : Option (List (Option Tree))) (permitted : ℕ) (routed : Routed) (net : NetNo) (sink : WireNo)
    → AreRoutedFrom graph nets opening permitted routed → IsUnreachable graph nets net sink → ⊥

-- nets that are routed within the permitted rounds do not end each of them with an overused wire
abbrev pub RoutedEndFree : Type 0
RoutedEndFree = (graph : Network) (nets : List Net) (opening : Option (List (Option Tree))) (permitted : ℕ) (routed : Routed) (logs : List RoundLog) (tallies : List Shut)
    → AreRoutedFrom graph nets opening permitted routed → AllEndOverusedFrom graph nets opening permitted logs tallies → ⊥

-- nets of which each round ends with an overused wire have no sink that can't be reached
abbrev pub OverusedAreReached : Type 0
OverusedAreReached = (graph : Network) (nets : List Net) (opening : Option (List (Option Tree))) (permitted : ℕ) (logs : List RoundLog) (tallies : List Shut) (net : NetNo) (sink : WireNo)
    → AllEndOverusedFrom graph nets opening permitted logs tallies → IsUnreachable graph nets net sink → ⊥

-- each tree that a net keeps is the one that it has where every wire costs 1
abbrev pub OpensAtOne : Network → List Net → Option (List (Option Tree)) → Type 0
OpensAtOne graph nets None = Unit {0}
OpensAtOne graph nets (Some kept) = (n : ℕ) (net : Net) (tree : Tree) → slice_get nets n ≡ Some net → slice_get kept n ≡ Some (Some tree) → IsTree graph.edges (λ w. 1) net.root net.sinks.items (route_of tree)

-- such an opening changes no route: whatever two of them there are, or one and none, after each round the routes, the counts and the history are the same
abbrev pub OpeningsChangeNoRoute : Type 0
OpeningsChangeNoRoute = (graph : Network) (nets : List Net) (opening its : Option (List (Option Tree))) (rounds others : List Past) → OpensAtOne graph nets opening → OpensAtOne graph nets its
    → AreRoundsFrom graph nets opening rounds → AreRoundsFrom graph nets its others → (k : ℕ) (one other : Past) → slice_get rounds k ≡ Some one → slice_get others k ≡ Some other → LeaveSame one other

-- and so no verdict
abbrev pub OpeningsChangeNoVerdict : Type 0
OpeningsChangeNoVerdict = (graph : Network) (nets : List Net) (opening its : Option (List (Option Tree))) (permitted : ℕ) (routed : Routed) (logs : List RoundLog) (tallies : List Shut) → OpensAtOne graph nets opening → OpensAtOne graph nets its
    → AreRoutedFrom graph nets opening permitted routed → AllEndOverusedFrom graph nets its permitted logs tallies → ⊥
