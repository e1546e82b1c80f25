-- The wire length of a placed design: the half perimeters of its nets, in tiles.
use Rattle.std.specs.Prelude.{ℕ, ◌+◌, ◌-◌, Bool, List, map, filter, fold, min, max, length}
use Rattle.std.specs.List.{range_with_len}
use Rattle.std.specs.Option.{option_map_or}
use Rattle.ice_base.specs.declared.number.TileAt.{TileAt}
use Rattle.ice_chip.specs.Database.{Parts}
use Rattle.ice_cells.specs.declared.root.Root.{Root}
use Rattle.ice_cells.specs.declared.root.Root.TheVariants.{PadIn, CellOut}
use Rattle.ice_cells.specs.Same.{same_root}
use Rattle.ice_place_defs.specs.Plan.{Plan, root_tile}
use Rattle.ice_place_defs.specs.Loads.{Load, loads}

-- ---- boxes
-- the columns and the rows from the least to the greatest
pub record Box : Type 0 where
  pub left : ℕ
  pub right : ℕ
  pub low : ℕ
  pub high : ℕ

abbrev pub box_at : TileAt → Box
box_at t = record { left = t.x; right = t.x; low = t.y; high = t.y }

-- the least box that has the tile, too
abbrev pub with_tile : Box → TileAt → Box
with_tile box t = record { left = min box.left t.x; right = max box.right t.x; low = min box.low t.y; high = max box.high t.y }

abbrev pub half_perimeter : Box → ℕ
half_perimeter box = (box.right - box.left) + (box.high - box.low)

-- ---- nets
abbrev pub is_of_root : Root → Load → Bool
is_of_root root load = same_root load.root root

abbrev pub load_tile : Load → TileAt
load_tile load = load.tile

-- the box of the root's tile and the tiles of these loads that read it
abbrev pub box_of : List Load → Root → TileAt → Box
box_of all root t = fold with_tile (box_at t) (map load_tile (filter (is_of_root root) all))

-- the length of the net of a root; that of a global counts nothing
abbrev pub net_length : Plan → List Load → Root → ℕ
net_length plan all root = option_map_or (λ t. half_perimeter (box_of all root t)) (root_tile plan root) 0

-- ---- the whole
abbrev pub sum : List ℕ → ℕ
sum lengths = fold (λ total n. total + n) 0 lengths

abbrev pub pad_root : ℕ → Root
pad_root k = PadIn k

abbrev pub cell_root : ℕ → Root
cell_root c = CellOut c

-- the wire length: over the nets of all pads and cells
abbrev pub length_of : Parts → Plan → ℕ
length_of parts plan =
    sum (map (λ k. net_length plan (loads parts plan) (pad_root k)) (range_with_len 0 (length plan.ports)))
    + sum (map (λ c. net_length plan (loads parts plan) (cell_root c)) (range_with_len 0 (length plan.design.cells)))
