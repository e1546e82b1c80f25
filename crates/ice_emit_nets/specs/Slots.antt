-- The slots of cells, noted slot by slot.
use Rattle.std.specs.Prelude.{ℕ, ◌+◌, Option, None, List, [], ◌∷◌}
use Rattle.ice_base.specs.declared.number.TileAt.{TileAt}
use Rattle.ice_cells.specs.declared.cluster.Cluster.{Cluster}
use Rattle.ice_cells.specs.Tables.{keep, scattered}
use Rattle.ice_place_defs.specs.Plan.{Slot}

-- a slot of a tile, and the cell that it holds
pub record Held : Type 0 where
  pub tile : TileAt
  pub place : ℕ
  pub cell : Option ℕ

abbrev pub held : TileAt → ℕ → Option ℕ → Held
held t i cell = record { tile = t; place = i; cell = cell }

abbrev pub held_cell : Held → Option ℕ
held_cell h = h.cell

abbrev pub held_slot : Held → Slot
held_slot h = (h.tile, h.place)

-- of the slots that hold a cell the first one is noted
abbrev pub noted : List (Option Slot) → List Held → List (Option Slot)
noted slots all = scattered held_cell (keep held_slot) None slots all

-- the slots of a tile, the first of which has that number
abbrev pub tile_slots : TileAt → ℕ → List (Option ℕ) → List Held
tile_slots t i [] = []
tile_slots t i (cell ∷ cells) = held t i cell ∷ tile_slots t (i + 1) cells

abbrev pub cluster_slots : Cluster → TileAt → List Held
cluster_slots cluster t = tile_slots t 0 cluster.cells
