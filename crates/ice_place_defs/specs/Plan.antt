-- A placed design: the tile of each cluster, the pad of each port, the global of each global buffer; and where each root stands.
use Rattle.std.specs.Prelude.{ℕ, Bool, false, Option, None, Some, List, [], ◌∷◌, position, option_map, slice_get, slice_index_or}
use Rattle.ice_base.specs.declared.number.TileAt.{TileAt}
use Rattle.ice_chip.specs.declared.rows.Pad.{Pad}
use Rattle.ice_cells.specs.declared.cluster.Cluster.{Cluster}
use Rattle.ice_cells.specs.declared.cluster.Clusters.{Clusters}
use Rattle.ice_cells.specs.declared.design.Design.{Design}
use Rattle.ice_cells.specs.declared.root.Root.{Root}
use Rattle.ice_cells.specs.declared.root.Root.TheVariants.{PadIn, CellOut, GlobalOut, CarryOut}
use Rattle.ice_cells.specs.Tables.{is_place}
use Rattle.ice_place_defs.specs.declared.placed.Placed.{Placed}

pub record Plan : Type 0 where
  pub design : Design
  pub clusters : List Cluster
  -- the tile of each cluster
  pub at : List TileAt
  -- the pad of each port
  pub ports : List Pad
  -- the number of the global of each global buffer, and whether the buffer is direct: its global has the level of a pad by itself
  pub globals : List ℕ
  pub direct : List Bool

-- a placed design, without its chip
abbrev pub plan_in : Placed → Plan
plan_in placed = record { design = placed.design.now; clusters = placed.clusters.now; at = placed.tiles.now; ports = placed.ports.now; globals = placed.globals.now; direct = placed.direct.now }

-- the global buffer of this number is direct
abbrev pub is_direct : Plan → ℕ → Bool
is_direct plan g = slice_index_or plan.direct g false

-- its clusters, as they are made
abbrev pub listed : Plan → Clusters
listed plan = record { list = plan.clusters }

-- ---- cells
-- a slot of a tile: the tile, and the number of the slot from below
abbrev pub Slot : Type 0
Slot = TileAt × ℕ

-- the slot of a cluster that holds the cell
abbrev pub slot_in : Cluster → ℕ → Option ℕ
slot_in cluster c = position (is_place c) cluster.cells

abbrev pub in_tile : TileAt → ℕ → Slot
in_tile t i = (t, i)

abbrev pub first_slot : Option Slot → Option Slot → Option Slot
first_slot None other = other
first_slot (Some slot) other = Some slot

-- the slot of a cell, by the clusters and their tiles
abbrev pub slot_among : List Cluster → List TileAt → ℕ → Option Slot
slot_among [] at c = None
slot_among (cluster ∷ clusters) [] c = None
slot_among (cluster ∷ clusters) (t ∷ at) c = first_slot (option_map (in_tile t) (slot_in cluster c)) (slot_among clusters at c)

abbrev pub slot_of : Plan → ℕ → Option Slot
slot_of plan c = slot_among plan.clusters plan.at c

-- ---- tiles of roots
abbrev pub slot_tile : Slot → TileAt
slot_tile slot = slot.0

abbrev pub pad_tile : Pad → TileAt
pad_tile pad = pad.tile

-- the tile where a root stands; a global stands nowhere, and carries are no roots of nets
abbrev pub root_tile : Plan → Root → Option TileAt
root_tile plan (PadIn k) = option_map pad_tile (slice_get plan.ports k)
root_tile plan (CellOut c) = option_map slot_tile (slot_of plan c)
root_tile plan (GlobalOut g) = None
root_tile plan (CarryOut c) = None
