-- What is kept of the steps that the workers of rounds made on their shared words.
use Rattle.std.specs.Prelude.{◌≡◌, ℕ, ◌+◌, List, Option, None, Some, length, slice_get}
use Rattle.std.specs.List.{sum_by}
use Rattle.ice_base.specs.declared.number.NetNo.{NetNo}
use Rattle.ice_graph.specs.declared.tree.Tree.{Tree}
use Rattle.ice_core.specs.Moves.{IsOccupancy}
use Rattle.ice_core.specs.Routes.{tree_wires, wires_of}
use Rattle.ice_words.specs.Grips.{Shut}
use Rattle.ice_negotiate_defs.specs.Rounds.{Past, BeginsWith}

-- the wires of a net's route
abbrev pub wires_in : List Tree → NetNo → List ℕ
wires_in trees number = wires_of (tree_wires trees) number.0

-- a round that took the trees to new ones over so many wires: each net that moved was claimed, the wires of its old route were released and those of
-- its new one held; the counts were those of the trees before, and are those of the trees after it
pub record IsTally (wires : ℕ) (moved : List NetNo) (before after : List Tree) (shut : Shut) : Type 0 where
  pub all : length shut.opened ≡ wires
  pub long : length shut.opened ≡ length shut.closed
  pub opened : IsOccupancy shut.opened before
  pub closed : IsOccupancy shut.closed after
  pub claims : shut.claims ≡ length moved
  pub releases : shut.releases ≡ sum_by (λ (number : NetNo). length (wires_in before number)) moved
  pub holds : shut.holds ≡ sum_by (λ (number : NetNo). length (wires_in after number)) moved

-- a tally of each of these rounds, in order; the first began with what the opening left, and each other one with the trees that the round before left
pub record AreTalliesFrom (wires : ℕ) (opening : Option (List (Option Tree))) (rounds : List Past) (tallies : List Shut) : Type 0 where
  pub long : length tallies ≡ length rounds
  pub first : (one : Past) (shut : Shut) → slice_get rounds 0 ≡ Some one → slice_get tallies 0 ≡ Some shut → (before : List Tree) × BeginsWith opening before × IsTally wires one.moved before one.trees shut
  pub next : (k : ℕ) (one after : Past) (shut : Shut) → slice_get rounds k ≡ Some one → slice_get rounds (k + 1) ≡ Some after → slice_get tallies (k + 1) ≡ Some shut → IsTally wires after.moved one.trees after.trees shut

abbrev pub AreTallies : ℕ → List Past → List Shut → Type 0
AreTallies wires rounds tallies = AreTalliesFrom wires None rounds tallies
