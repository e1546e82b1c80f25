-- The clusters that hold cells, noted slot by slot.
use Rattle.std.specs.Prelude.{ℕ, ◌+◌, Option, None, List, [], ◌∷◌, ◌++◌}
use Rattle.ice_cells.specs.declared.cluster.Cluster.{Cluster}
use Rattle.ice_cells.specs.Tables.{keep, scattered}
use Rattle.ice_anneal_board.specs.declared.net.Node.{Node}
use Rattle.ice_anneal_board.specs.declared.net.Node.TheVariants.{Cluster as of_cluster}

-- a slot of a cluster, and the cell that it holds
pub record Held : Type 0 where
  pub cluster : ℕ
  pub cell : Option ℕ

abbrev pub held : ℕ → Option ℕ → Held
held k cell = record { cluster = k; cell = cell }

abbrev pub held_cell : Held → Option ℕ
held_cell h = h.cell

abbrev pub held_node : Held → Node
held_node h = of_cluster h.cluster

-- of the clusters that hold a cell the first one is noted
abbrev pub noted : List (Option Node) → List Held → List (Option Node)
noted nodes all = scattered held_cell (keep held_node) None nodes all

-- the slots of a cluster
abbrev pub slots_held : ℕ → List (Option ℕ) → List Held
slots_held k [] = []
slots_held k (cell ∷ cells) = held k cell ∷ slots_held k cells

-- the slots of clusters, the first of which has that number
abbrev pub clusters_held : ℕ → List Cluster → List Held
clusters_held k [] = []
clusters_held k (cluster ∷ clusters) = slots_held k cluster.cells ++ clusters_held (k + 1) clusters
