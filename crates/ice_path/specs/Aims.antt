-- What a search knows of the way to its targets before it begins, and what a walk costs at least by that.
use Rattle.std.specs.Prelude.{◌≡◌, ℕ, ◌+◌, ◌-◌, ◌*◌, ◌≤◌, ◌⊎◌, min, max, Bool, true, false, is_some, Option, Some, None, List, [], ◌∷◌, length, slice_index}
use Rattle.ice_base.specs.declared.number.WireNo.{WireNo}
use Rattle.ice_graph.specs.declared.edge.Edge.{Edge}
use Rattle.ice_graph.specs.Network.{Network, least_bound}
use Rattle.ice_graph.specs.Hops.{hop}
use Rattle.ice_path.specs.Room.{AreWires}
use Rattle.ice_path.specs.Search.{AtMost, label}
use Rattle.ice_path.specs.Walks.{HasEdge, FallsBy, IsTarget}
use Rattle.ice_path.specs.declared.aim.Aim.{Aim}

-- at least so many rows, by a bound of them and by a column, unless the column says that no walk leads there
abbrev pub at_least : ℕ → Option ℕ → Option ℕ
at_least bound None = None
at_least bound (Some k) = Some (max k bound)

-- how many rows lead at least from the wire to a target, by the column and the guides
abbrev pub rest : Network → List ℕ → List WireNo → ℕ → Option ℕ
rest graph hops guides w = at_least (least_bound graph guides w) (hop hops w)

-- a walk from the wire may lead to a target
unfoldable pub leads : Aim → ℕ → Bool
leads aim w = is_some (hop aim.hops.now w)

-- what a walk to a target costs at least from a wire that isn't near, by how many rows it has at least: the number of rows where nothing more is known
abbrev pub beyond_at : List ℕ → ℕ → ℕ
beyond_at [] k = k
beyond_at (c ∷ costs) k = slice_index (c ∷ costs) (min k (length costs))

-- what a walk to a target costs at least, by what is known of a near wire and by how many rows it has at least; where none leads there, more than any walk costs
abbrev pub ahead : List ℕ → Option ℕ → Option ℕ → ℕ
ahead beyond near None = 18446744073709551616
ahead beyond (Some cost) (Some k) = cost
ahead beyond None (Some k) = beyond_at beyond k

-- what a walk from the wire to a target costs at least
unfoldable pub bound_in : Network → Aim → ℕ → ℕ
bound_in graph aim w = ahead aim.beyond.now (label aim.near.now w) (rest graph aim.hops.now aim.guides.now w)

-- targets and guides are wires of the graph, and what is known beforehand is small
pub record Fits (graph : Network) (aim : Aim) : Type 0 where
  pub targets : AreWires graph.wires aim.targets.now
  pub guides : AreWires graph.wires aim.guides.now
  pub low : (w c : ℕ) → label aim.near.now w ≡ Some c → c ≤ 1024 * 17046213234436
  pub beyond : (k : ℕ) → slice_index aim.beyond.now k ≤ 1024 * 17046213234436

-- the bound falls along each edge by no more than a price, is 0 at the targets alone, and is more than any walk costs where no walk leads on
pub record IsAim (edges : List Edge) (price : ℕ → ℕ) (targets : List WireNo) (bound : ℕ → ℕ) (leads : ℕ → Bool) : Type 0 where
  pub falls : FallsBy edges price bound
  pub home : (w : ℕ) → IsTarget targets w → bound w ≡ 0
  pub away : (w : ℕ) → bound w ≡ 0 → IsTarget targets w
  pub back : (e : Edge) → HasEdge edges e → leads e.to.0 ≡ true → leads e.from.0 ≡ true
  pub astray : (w : ℕ) → leads w ≡ false → 18446744073709551616 ≤ bound w

-- the number of rows that lead at least to a target falls along each edge by at most one, and where nothing is known of the edge's source there is nothing known of its target
abbrev pub RestFalls : List Edge → (ℕ → Option ℕ) → Type 0
RestFalls edges rest = (e : Edge) (k : ℕ) → HasEdge edges e → rest e.to.0 ≡ Some k → (l : ℕ) × (rest e.from.0 ≡ Some l) × (l ≤ k + 1)

-- what a walk costs at least from a wire that isn't near, by how many rows it has at least: something, and with one row more at most one more
pub record AreCosts (beyond : ℕ → ℕ) : Type 0 where
  pub some : (k : ℕ) → 1 ≤ beyond k
  pub slope : (j k : ℕ) → j ≤ k + 1 → beyond j ≤ beyond k + 1

-- what is known once one has looked back: an edge into a wire that is near comes from a near wire, by at most the price more, or from one from which a walk costs as much by its rows; near wires cost no
-- more than others, and lead on; the targets, and no other wire, cost nothing
pub record Knows (edges : List Edge) (price : ℕ → ℕ) (targets : List WireNo) (near : List (Option ℕ)) (rest : ℕ → Option ℕ) (beyond : ℕ → ℕ) : Type 0 where
  pub falls : (e : Edge) (c : ℕ) → HasEdge edges e → label near e.to.0 ≡ Some c → AtMost near e.from.0 (price e.to.0 + c) ⊎ (label near e.from.0 ≡ None) × ((k : ℕ) → rest e.from.0 ≡ Some k → beyond k ≤ price e.to.0 + c)
  pub low : (w c k : ℕ) → label near w ≡ Some c → c ≤ beyond k
  pub on : (w c : ℕ) → label near w ≡ Some c → (k : ℕ) × (rest w ≡ Some k)
  pub home : (w : ℕ) → IsTarget targets w → label near w ≡ Some 0
  pub away : (w : ℕ) → label near w ≡ Some 0 → IsTarget targets w
  pub costs : AreCosts beyond
