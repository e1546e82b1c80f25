-- Wire length by nodes.
use Rattle.std.specs.Prelude.{ℕ, ◌<◌, List, map, fold, slice_index_or}
use Rattle.std.specs.List.{All, sum}
use Rattle.ice_base.specs.declared.number.TileAt.{TileAt}
use Rattle.ice_place_defs.specs.Length.{Box, box_at, with_tile, half_perimeter}
use Rattle.ice_anneal_board.specs.declared.net.Node.{Node}
use Rattle.ice_anneal_board.specs.declared.net.Node.TheVariants.{Cluster, Fixed}
use Rattle.ice_anneal_board.specs.declared.net.NetNodes.{NetNodes}

-- what stands in for a tile that a list doesn't have
abbrev pub origin : TileAt
origin = record { x = 0; y = 0 }

-- the node is of one of so many clusters, or fixed
abbrev pub IsNode : ℕ → Node → Type 0
IsNode clusters (Cluster c) = c < clusters
IsNode clusters (Fixed t) = Unit {0}

abbrev pub IsNet : ℕ → NetNodes → Type 0
IsNet clusters net = All (IsNode clusters) net.nodes.items

-- the tile of a node, where `at` has the tile of each cluster
abbrev pub tile_of : List TileAt → Node → TileAt
tile_of at (Cluster c) = slice_index_or at c origin
tile_of at (Fixed t) = t

-- the box of tiles
abbrev pub box_of : List TileAt → Box
box_of tiles = fold with_tile (box_at (slice_index_or tiles 0 origin)) tiles

-- half the perimeter of the box of a net's tiles
abbrev pub net_length : List TileAt → List Node → ℕ
net_length at nodes = half_perimeter (box_of (map (tile_of at) nodes))

-- the sum of that over the nets
abbrev pub wire_length : List NetNodes → List TileAt → ℕ
wire_length nets at = sum (map (λ (net : NetNodes). net_length at net.nodes.items) nets)
