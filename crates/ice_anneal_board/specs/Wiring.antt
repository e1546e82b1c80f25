-- Which nets each cluster has a node of.
use Rattle.std.specs.Prelude.{◌≡◌, ℕ, ◌<◌, ◌^◌, Bool, true, false, nat_eq, List, length, Some, slice_get}
use Rattle.std.specs.List.{All, Contains, list_any}
use Rattle.ice_anneal_board.specs.declared.net.Node.{Node}
use Rattle.ice_anneal_board.specs.declared.net.Node.TheVariants.{Cluster, Fixed}
use Rattle.ice_anneal_board.specs.declared.net.NetNodes.{NetNodes}
use Rattle.ice_anneal_board.specs.Length.{IsNet}
use Rattle.ice_anneal_board.specs.declared.wiring.Wiring.{Wiring}
use Rattle.ice_anneal_board.specs.declared.wiring.Touched.{Touched}

-- x stands at place i of the list
abbrev pub At : {X : Type 0} → List X → ℕ → X → Type 0
At xs i x = slice_get xs i ≡ Some x

-- whether the node is of the cluster
abbrev pub is_of : ℕ → Node → Bool
is_of cluster (Cluster c) = nat_eq c cluster
is_of cluster (Fixed t) = false

-- whether the net has a node of the cluster
abbrev pub touches : ℕ → List Node → Bool
touches cluster nodes = list_any (is_of cluster) nodes

-- the nets have nodes of the first `count` clusters alone, and `touching` has the nets of each
pub record IsWiring (count : ℕ) (w : Wiring) : Type 0 where
  pub nets : All (IsNet count) w.nets.items
  pub few : length w.nets.items < 2 ^ 32
  pub counts : length w.touching.items ≡ count
  pub within : (c : ℕ) (ks : Touched) → At w.touching.items c ks → All (λ k. k < length w.nets.items) ks.nets.items
  pub each : (c : ℕ) (ks : Touched) (k : ℕ) (net : NetNodes) → At w.touching.items c ks → At w.nets.items k net → touches c net.nodes.items ≡ true → Contains ks.nets.items k
