-- Which nets move: those that hold an overused wire on which another net stays.
use Rattle.std.specs.Prelude.{◌≡◌, ℕ, ◌+◌, ◌≤◌, ◌<◌, ◌%◌, Bool, ◌&&◌, not, cond, List, [], ◌∷◌, Some, length, take, slice_get, slice_index, eqb, nat_lt, count_by, if◌then◌else◌}
use Rattle.std.specs.List.{list_any}
use Rattle.ice_base.specs.declared.number.WireNo.{WireNo}
use Rattle.ice_base.specs.declared.number.NetNo.{NetNo}
use Rattle.ice_graph.specs.declared.tree.Tree.{Tree}

-- the wire is one of these
abbrev pub stands_in : List WireNo → ℕ → Bool
stands_in wires w = list_any (λ (v : WireNo). eqb v.0 w) wires

-- the tree holds the wire
abbrev pub holds : ℕ → Tree → Bool
holds w tree = stands_in tree.wires.items w

-- how many of the trees hold the wire
abbrev pub occupancy : List Tree → ℕ → ℕ
occupancy trees w = count_by (holds w) trees

-- the place of net n among the holders of the wire by rising net number, from 0
abbrev pub place : List Tree → ℕ → ℕ → ℕ
place trees n w = occupancy (take n trees) w

-- of this many holders of a wire the one at this place has to leave: the wire is overused, and another place stays after this round
abbrev pub leaves : ℕ → ℕ → ℕ → Bool
leaves round count at = nat_lt 1 count && not (eqb at (round % count))

-- the net n, which has this tree, holds a wire that it has to leave
abbrev pub moves : ℕ → List Tree → ℕ → Tree → Bool
moves round trees n tree = list_any (λ (v : WireNo). leaves round (occupancy trees v.0) (place trees n v.0)) tree.wires.items

-- the nets from n on that move, where these are their trees
abbrev pub movers_from : ℕ → List Tree → ℕ → List Tree → List NetNo
movers_from round trees n [] = []
movers_from round trees n (tree ∷ rest) = if moves round trees n tree then record { 0 = n } ∷ movers_from round trees (n + 1) rest else movers_from round trees (n + 1) rest

-- the nets that move in the round after this one, by rising number
abbrev pub movers_of : ℕ → List Tree → List NetNo
movers_of round trees = movers_from round trees 0 trees

-- each wire is below n
abbrev pub AreBelow : ℕ → List WireNo → Type 0
AreBelow n wires = (k : ℕ) (v : WireNo) → slice_get wires k ≡ Some v → v.0 < n

-- the wires of each tree are below n
abbrev pub AreWithin : ℕ → List Tree → Type 0
AreWithin n trees = (k : ℕ) (tree : Tree) → slice_get trees k ≡ Some tree → AreBelow n tree.wires.items

-- the counts are those of the trees, whose wires all have one
pub record IsOccupancy (counts : List ℕ) (trees : List Tree) : Type 0 where
  pub each : (w : ℕ) → w < length counts → slice_index counts w ≡ occupancy trees w
  pub within : AreWithin (length counts) trees

-- a net has to leave the wire, by counts and places
abbrev pub leaves_at : ℕ → List ℕ → List ℕ → WireNo → Bool
leaves_at round counts places v = leaves round (slice_index counts v.0) (slice_index places v.0)

-- the net is counted on the first k of its wires, beside the places that were counted before it
pub record HaveCounted (places : List ℕ) (net : ℕ) (wires : List WireNo) (k : ℕ) (seen marks : List ℕ) : Type 0 where
  pub long : (length seen ≡ length places) × (length marks ≡ length places)
  pub each : (w : ℕ) → w < length places → slice_index seen w ≡ slice_index places w + cond (stands_in (take k wires) w) 1 0
  pub mark : (w : ℕ) → w < length places → eqb (slice_index marks w) (net + 1) ≡ stands_in (take k wires) w
  pub low : (w : ℕ) → w < length places → slice_index marks w ≤ net + 1

-- the nets before n are counted on their wires
pub record AreCounted (trees : List Tree) (n : ℕ) (seen marks : List ℕ) : Type 0 where
  pub long : length marks ≡ length seen
  pub each : (w : ℕ) → w < length seen → slice_index seen w ≡ place trees n w
  pub low : (w : ℕ) → w < length seen → slice_index marks w ≤ n
