-- Boxes around wires, and how far two of them are apart.
use Rattle.std.specs.Prelude.{◌≡◌, ℕ, Bool, nat_le, ◌&&◌, ◌+◌, ◌-◌, ◌/◌, ◌≤◌, ◌<◌, ◌⊎◌, min, max, eqb, List, Option, Some, None, length, slice_get, slice_index_or, if◌then◌else◌}
use Rattle.ice_base.specs.declared.number.TileAt.{TileAt}
use Rattle.ice_graph.specs.declared.edge.Edge.{Edge}
use Rattle.ice_graph.specs.declared.extent.Extent.{Extent}

-- the box of one tile
abbrev pub box_at : TileAt → Extent
box_at tile = record { west = tile.x; east = tile.x; south = tile.y; north = tile.y }

-- the box holds the tile already
abbrev pub holds : Extent → TileAt → Bool
holds b tile = nat_le b.west tile.x && nat_le tile.x b.east && nat_le b.south tile.y && nat_le tile.y b.north

-- the smallest box that holds a box and a tile
abbrev pub grown : Extent → TileAt → Extent
grown b tile = record { west = min b.west tile.x; east = max b.east tile.x; south = min b.south tile.y; north = max b.north tile.y }

-- the box that holds what a wire's box holds, and a tile
abbrev pub grown_by : Option Extent → TileAt → Extent
grown_by None tile = box_at tile
grown_by (Some b) tile = grown b tile

-- the box holds the tile
abbrev pub HoldsTile : Extent → TileAt → Type 0
HoldsTile b tile = (b.west ≤ tile.x) × (tile.x ≤ b.east) × (b.south ≤ tile.y) × (tile.y ≤ b.north)

-- the box lies in the other one
abbrev pub LiesIn : Extent → Extent → Type 0
LiesIn b c = (c.west ≤ b.west) × (b.east ≤ c.east) × (c.south ≤ b.south) × (b.north ≤ c.north)

-- the edge enters the wire or leaves it
abbrev pub Touches : Edge → ℕ → Type 0
Touches e w = (e.from.0 ≡ w) ⊎ (e.to.0 ≡ w)

-- the box holds the places of those of the first n edges that enter the wire or leave it
abbrev pub HoldsAll : List Edge → List TileAt → ℕ → ℕ → Extent → Type 0
HoldsAll edges places n w b = (k : ℕ) (e : Edge) (tile : TileAt) → k < n → slice_get edges k ≡ Some e → slice_get places k ≡ Some tile → Touches e w → HoldsTile b tile

-- the box of a wire: the smallest that holds the places of all edges into it or from it, of the first n, and none where there is no such edge
abbrev pub IsBoxOf : List Edge → List TileAt → ℕ → ℕ → Option Extent → Type 0
IsBoxOf edges places n w None = (k : ℕ) (e : Edge) → k < n → slice_get edges k ≡ Some e → Touches e w → ⊥
IsBoxOf edges places n w (Some b) = HoldsAll edges places n w b × ((c : Extent) → HoldsAll edges places n w c → LiesIn b c)

-- the box of the wire
abbrev pub box_of : List (Option Extent) → ℕ → Option Extent
box_of boxes w = slice_index_or boxes w None

-- one box for each wire, by the first n edges
pub record AreBoxesUpTo (wires : ℕ) (edges : List Edge) (places : List TileAt) (n : ℕ) (boxes : List (Option Extent)) : Type 0 where
  pub long : length boxes ≡ wires
  pub each : (w : ℕ) → w < wires → IsBoxOf edges places n w (box_of boxes w)

-- the boxes of the wires, where the edges have these places
abbrev pub AreBoxes : ℕ → List Edge → List TileAt → List (Option Extent) → Type 0
AreBoxes wires edges places boxes = AreBoxesUpTo wires edges places (length edges) boxes

-- half the way around a box
abbrev pub half_perimeter : Extent → ℕ
half_perimeter b = (b.east - b.west) + (b.north - b.south)

-- the greatest half perimeter of the boxes of wires with an edge into them, of the first n edges; 0 where there is no such edge
pub record IsSpreadUpTo (edges : List Edge) (boxes : List (Option Extent)) (n spread : ℕ) : Type 0 where
  pub most : (k : ℕ) (e : Edge) (b : Extent) → k < n → slice_get edges k ≡ Some e → box_of boxes e.to.0 ≡ Some b → half_perimeter b ≤ spread
  pub met : (spread ≡ 0) ⊎ ((k : ℕ) × (e : Edge) × (b : Extent) × (k < n) × (slice_get edges k ≡ Some e) × (box_of boxes e.to.0 ≡ Some b) × (half_perimeter b ≡ spread))

-- the greatest half perimeter of the boxes of wires with an edge into them
abbrev pub IsSpread : List Edge → List (Option Extent) → ℕ → Type 0
IsSpread edges boxes spread = IsSpreadUpTo edges boxes (length edges) spread

-- the steps between the places a to b and the places c to d
abbrev pub gap : ℕ → ℕ → ℕ → ℕ → ℕ
gap a b c d = max (c - b) (a - d)

-- the steps between two boxes: those from column to column and those from row to row. A wire without a box is nowhere apart
abbrev pub distance : Option Extent → Option Extent → ℕ
distance None other = 0
distance (Some b) None = 0
distance (Some b) (Some c) = gap b.west b.east c.west c.east + gap b.south b.north c.south c.north

-- the distance in boxes of the greatest half perimeter, rounded up
abbrev pub in_spreads : ℕ → ℕ → ℕ
in_spreads spread d = if eqb spread 0 then 0 else (d + (spread - 1)) / spread
