-- Nets that are noted for the clusters that they have nodes of.
use Rattle.std.specs.Prelude.{◌≡◌, ℕ, ◌<◌, true, List, [], length, slice_get}
use Rattle.std.specs.Option.{option_map_or}
use Rattle.std.specs.List.{All, Contains}
use Rattle.ice_anneal_board.specs.declared.net.Node.{Node}
use Rattle.ice_anneal_board.specs.declared.net.NetNodes.{NetNodes}
use Rattle.ice_anneal_board.specs.declared.wiring.Touched.{Touched}
use Rattle.ice_anneal_board.specs.Wiring.{At, touches}

-- the nets that are noted for a cluster
abbrev pub nets_at : List Touched → ℕ → List ℕ
nets_at touching c = option_map_or (λ (t : Touched). t.nets.items) (slice_get touching c) []

-- net k is noted for each cluster that one of these nodes is of; nothing is lost, and no other net is noted
pub record Noted (old new : List Touched) (k : ℕ) (nodes : List Node) : Type 0 where
  pub counts : length new ≡ length old
  pub kept : (c j : ℕ) → Contains (nets_at old c) j → Contains (nets_at new c) j
  pub within : (limit c : ℕ) → k < limit → All (λ j. j < limit) (nets_at old c) → All (λ j. j < limit) (nets_at new c)
  pub noted : (c : ℕ) → touches c nodes ≡ true → Contains (nets_at new c) k

-- the first `done` of these nets are noted, for so many clusters
pub record Wired (count : ℕ) (nets : List NetNodes) (done : ℕ) (touching : List Touched) : Type 0 where
  pub counts : length touching ≡ count
  pub within : (c : ℕ) → All (λ k. k < length nets) (nets_at touching c)
  pub each : (c k : ℕ) (net : NetNodes) → k < done → At nets k net → touches c net.nodes.items ≡ true → Contains (nets_at touching c) k
