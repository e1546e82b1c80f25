-- Rounds of negotiated congestion: in each the nets that move get new trees, in the prices of the moment at which it began.
use Rattle.std.specs.Prelude.{◌≡◌, ℕ, ◌+◌, ◌-◌, ◌*◌, ◌<◌, ◌≤◌, ◌⊎◌, List, [], ◌∷◌, Option, None, Some, cond, length, replicate, slice_get, slice_index}
use Rattle.ice_base.specs.declared.number.WireNo.{WireNo}
use Rattle.ice_base.specs.declared.number.NetNo.{NetNo}
use Rattle.ice_graph.specs.declared.tree.Tree.{Tree}
use Rattle.ice_graph.specs.Network.{Network}
use Rattle.ice_core.specs.declared.net.Net.{Net}
use Rattle.ice_core.specs.declared.prices.Prices.{Prices}
use Rattle.ice_core.specs.Congestion.{price, next_history}
use Rattle.ice_core.specs.Moves.{IsOccupancy, holds, movers_of}
use Rattle.ice_negotiate_defs.specs.Trees.{IsTree, AreOnce, AreReached, AreSinks, IsCause, route_of}
use Rattle.ice_negotiate_defs.specs.declared.stop.TreeStop.TheVariants.{Unreachable}

-- root and targets of each net are wires of the graph, and each sink has a target
abbrev pub AreNets : Network → List Net → Type 0
AreNets graph nets = (n : ℕ) (net : Net) → slice_get nets n ≡ Some net → (net.root.0 < graph.wires) × AreSinks graph.wires net.sinks.items

-- the prices of the round for the net of this tree: the others are those that hold a wire, less the net itself
pub record ArePricesOf (round : ℕ) (history counts : List ℕ) (tree : Tree) (p : Prices) : Type 0 where
  pub number : p.round ≡ round
  pub histories : p.history.items ≡ history
  pub long : length p.others.items ≡ length counts
  pub others : (w : ℕ) → w < length counts → slice_index p.others.items w ≡ slice_index counts w - cond (holds w tree) 1 0

-- the net moves to a new tree: the one in the prices of the round
pub record Moves (graph : Network) (round : ℕ) (history counts : List ℕ) (net : Net) (old new : Tree) : Type 0 where
  pub prices : Prices
  pub are_of : ArePricesOf round history counts old prices
  pub joined : IsTree graph.edges (price prices) net.root net.sinks.items (route_of new)

-- the net n is one of these
abbrev pub IsOneOf : List NetNo → ℕ → Type 0
IsOneOf nets n = (k : ℕ) × (slice_get nets k ≡ Some (record { 0 = n }))

-- the net n is one of those that move and moves, or it keeps its tree
abbrev pub IsMoved : Network → ℕ → List ℕ → List ℕ → List NetNo → ℕ → Net → Tree → Tree → Type 0
IsMoved graph round history counts moved n net old new =
    (IsOneOf moved n × Moves graph round history counts net old new) ⊎ ((IsOneOf moved n → ⊥) × (old ≡ new))

-- a round takes the trees to new ones, net by net, where these many nets hold each wire as it begins
pub record IsRound (graph : Network) (nets : List Net) (round : ℕ) (history counts : List ℕ) (moved : List NetNo) (old new : List Tree) : Type 0 where
  pub olds : length old ≡ length nets
  pub news : length new ≡ length nets
  pub each : (n : ℕ) (net : Net) (before after : Tree) → slice_get nets n ≡ Some net → slice_get old n ≡ Some before → slice_get new n ≡ Some after
      → IsMoved graph round history counts moved n net before after

-- what a round leaves: its number, its history, the nets that moved, the trees after it, and how many of them hold each wire
pub record Past : Type 0 where
  pub round : ℕ
  pub history : List ℕ
  pub moved : List NetNo
  pub trees : List Tree
  pub counts : List ℕ

-- no wire is in the trees of two nets
abbrev pub IsFree : Past → Type 0
IsFree past = (w : ℕ) → slice_index past.counts w ≤ 1

-- some wire is in the trees of two nets
abbrev pub IsOverused : Past → Type 0
IsOverused past = (w : ℕ) × (1 < slice_index past.counts w)

-- one round follows the other: the history rises by the trees after the one, and the nets move that leave a wire then
pub record Follows (graph : Network) (nets : List Net) (one next : Past) : Type 0 where
  pub number : next.round ≡ one.round + 1
  pub risen : next.history ≡ next_history one.history one.counts
  pub movers : next.moved ≡ movers_of one.round one.trees
  pub done : IsRound graph nets next.round next.history one.counts next.moved one.trees next.trees

-- the trees hold no wire
abbrev pub AreBare : List Tree → Type 0
AreBare trees = (n : ℕ) (tree : Tree) → slice_get trees n ≡ Some tree → tree.wires.items ≡ []

-- these are all nets in order
pub record AreAll (n : ℕ) (moved : List NetNo) : Type 0 where
  pub long : length moved ≡ n
  pub each : (k : ℕ) → k < n → slice_get moved k ≡ Some (record { 0 = k })

-- ---- rounds may begin from an opening: for each net the tree that it keeps, if it keeps one
-- what a net begins with
abbrev pub IsBegun : Option (Option Tree) → Tree → Type 0
IsBegun None tree = tree.wires.items ≡ []
IsBegun (Some None) tree = tree.wires.items ≡ []
IsBegun (Some (Some kept)) tree = route_of tree ≡ route_of kept

-- what all nets begin with, a tree each: without an opening trees that hold no wire
abbrev pub BeginsWith : Option (List (Option Tree)) → List Tree → Type 0
BeginsWith None before = AreBare before
BeginsWith (Some kept) before = (length before ≡ length kept) × ((n : ℕ) (tree : Tree) → slice_get before n ≡ Some tree → IsBegun (slice_get kept n) tree)

-- the nets that keep no tree, and those that keep one, from the number n on
abbrev pub left_from : ℕ → List (Option Tree) → List NetNo
left_from n [] = []
left_from n (None ∷ kept) = record { 0 = n } ∷ left_from (n + 1) kept
left_from n (Some tree ∷ kept) = left_from (n + 1) kept

abbrev pub kept_from : ℕ → List (Option Tree) → List NetNo
kept_from n [] = []
kept_from n (None ∷ kept) = kept_from (n + 1) kept
kept_from n (Some tree ∷ kept) = record { 0 = n } ∷ kept_from (n + 1) kept

-- the nets that move in the first round, of so many: all of them, or those that keep no tree
abbrev pub MoveFirst : ℕ → Option (List (Option Tree)) → List NetNo → Type 0
MoveFirst n None moved = AreAll n moved
MoveFirst n (Some kept) moved = (length kept ≡ n) × (moved ≡ left_from 0 kept)

-- the first round: nets move from trees without wires, and no wire has a history
pub record IsFirstFrom (graph : Network) (nets : List Net) (opening : Option (List (Option Tree))) (one : Past) : Type 0 where
  pub before : List Tree
  pub begins : BeginsWith opening before
  pub counts : List ℕ
  pub long : length counts ≡ graph.wires
  pub occupied : IsOccupancy counts before
  pub number : one.round ≡ 1
  pub fresh : one.history ≡ replicate graph.wires 0
  pub movers : MoveFirst (length nets) opening one.moved
  pub done : IsRound graph nets 1 one.history counts one.moved before one.trees

-- the rounds of these nets in order, from the first
pub record AreRoundsFrom (graph : Network) (nets : List Net) (opening : Option (List (Option Tree))) (rounds : List Past) : Type 0 where
  pub first : (one : Past) → slice_get rounds 0 ≡ Some one → IsFirstFrom graph nets opening one
  pub follow : (k : ℕ) (one next : Past) → slice_get rounds k ≡ Some one → slice_get rounds (k + 1) ≡ Some next → Follows graph nets one next
  pub counted : (k : ℕ) (one : Past) → slice_get rounds k ≡ Some one → (length one.counts ≡ graph.wires) × IsOccupancy one.counts one.trees

-- the rounds without an opening
abbrev pub AreRounds : Network → List Net → List Past → Type 0
AreRounds graph nets rounds = AreRoundsFrom graph nets None rounds

-- each of these rounds ends with an overused wire
abbrev pub AreOverused : List Past → Type 0
AreOverused rounds = (k : ℕ) (one : Past) → slice_get rounds k ≡ Some one → IsOverused one

-- walks lead to all sinks of the first n nets
abbrev pub AreReachedBefore : Network → List Net → ℕ → Type 0
AreReachedBefore graph nets n = (j : ℕ) (net : Net) → j < n → slice_get nets j ≡ Some net → AreReached graph.edges net.root net.sinks.items

-- the least net with a sink of which no target can be reached, and the first target of its first such sink
pub record IsUnreachable (graph : Network) (nets : List Net) (net : NetNo) (sink : WireNo) : Type 0 where
  pub the_net : Net
  pub at : slice_get nets net.0 ≡ Some the_net
  pub cause : IsCause graph.edges the_net.root the_net.sinks.items (Unreachable sink)
  pub earlier : AreReachedBefore graph nets net.0

-- the histories and the counts of a round are those of all wires, and within their bounds
pub record AreBounded (graph : Network) (round : ℕ) (history counts : List ℕ) : Type 0 where
  pub first : 1 ≤ round
  pub last : round ≤ 64
  pub wires : graph.wires ≤ 1048576
  pub long : length history ≡ graph.wires
  pub counted : length counts ≡ graph.wires
  pub low : (w : ℕ) → slice_index history w ≤ (round - 1) * 65535

-- at most 65,535 other nets hold a wire
abbrev pub AreFew : List ℕ → Tree → Type 0
AreFew counts tree = (w : ℕ) → w < length counts → slice_index counts w - cond (holds w tree) 1 0 ≤ 65535

-- no tree holds a wire twice
abbrev pub HoldOnce : List Tree → Type 0
HoldOnce trees = (n : ℕ) (tree : Tree) → slice_get trees n ≡ Some tree → AreOnce tree.wires.items

-- the prices of the round with all nets among the others
pub record AreOpen (round : ℕ) (history counts : List ℕ) (p : Prices) : Type 0 where
  pub number : p.round ≡ round
  pub histories : p.history.items ≡ history
  pub others : p.others.items ≡ counts

-- these are numbers of different nets
pub record AreDifferent (nets : List Net) (moved : List NetNo) : Type 0 where
  pub within : (k : ℕ) (net : NetNo) → slice_get moved k ≡ Some net → net.0 < length nets
  pub apart : (j k : ℕ) (net : NetNo) → slice_get moved j ≡ Some net → slice_get moved k ≡ Some net → j ≡ k

-- walks lead to all sinks of the first n of these nets
abbrev pub AreMoversReached : Network → List Net → List NetNo → ℕ → Type 0
AreMoversReached graph nets moved n = (j : ℕ) (number : NetNo) (net : Net) → j < n → slice_get moved j ≡ Some number → slice_get nets number.0 ≡ Some net → AreReached graph.edges net.root net.sinks.items

-- the first of these nets with a sink of which no target can be reached, and the first target of its first such sink
pub record IsFirstStop (graph : Network) (nets : List Net) (moved : List NetNo) (number : NetNo) (sink : WireNo) : Type 0 where
  pub place : ℕ
  pub at : slice_get moved place ≡ Some number
  pub net : Net
  pub is : slice_get nets number.0 ≡ Some net
  pub cause : IsCause graph.edges net.root net.sinks.items (Unreachable sink)
  pub earlier : AreMoversReached graph nets moved place

-- what a round leaves, from its parts
abbrev pub past_of : ℕ → List ℕ → List NetNo → List Tree → List ℕ → Past
past_of round history moved trees counts = record { round = round; history = history; moved = moved; trees = trees; counts = counts }
