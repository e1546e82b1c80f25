-- Legal placements of clusters. Of each cluster it is known whether it is a chunk of a run: the number of the run, and which
-- of its chunks.
use Rattle.std.specs.Prelude.{◌≡◌, ℕ, ◌+◌, ◌<◌, ◌==◌, ◌&&◌, Bool, true, false, Option, Some, None, List, [], length, slice_get, slice_index_or}
use Rattle.ice_base.specs.declared.number.TileAt.{TileAt}
use Rattle.ice_chip.specs.Database.{Parts}
use Rattle.ice_sites.specs.Site.{is_site, is_link}

-- ---- stretches
-- the tile stands at place j of stretch i
abbrev pub IsInStretch : List (List TileAt) → ℕ → ℕ → TileAt → Type 0
IsInStretch stretches i j t = slice_get (slice_index_or stretches i []) j ≡ Some t

-- the tile is one of the sites
abbrev pub IsAmong : List (List TileAt) → TileAt → Type 0
IsAmong stretches t = (i : ℕ) × ((j : ℕ) × IsInStretch stretches i j t)

-- the second tile stands directly behind the first one in a stretch
abbrev pub Follows : List (List TileAt) → TileAt → TileAt → Type 0
Follows stretches low high = (i : ℕ) × ((j : ℕ) × (IsInStretch stretches i j low × IsInStretch stretches i (j + 1) high))

-- ---- clusters
-- the second is the chunk behind the first one of the same run
abbrev pub is_next : Option (ℕ × ℕ) → Option (ℕ × ℕ) → Bool
is_next None high = false
is_next (Some low) None = false
is_next (Some low) (Some high) = (low.0 == high.0) && (low.1 + 1 == high.1)

abbrev pub chunk_of : List (Option (ℕ × ℕ)) → ℕ → Option (ℕ × ℕ)
chunk_of chunks c = slice_index_or chunks c None

-- the tile of a cluster
abbrev pub tile_at : List TileAt → ℕ → TileAt
tile_at at c = slice_index_or at c (record { x = 0; y = 0 })

-- a tile for each cluster, different sites, a run's chunks upwards on linked sites
pub record IsLegal (stretches : List (List TileAt)) (chunks : List (Option (ℕ × ℕ))) (at : List TileAt) : Type 0 where
  pub counts : length at ≡ length chunks
  pub sites : (c : ℕ) → c < length at → IsAmong stretches (tile_at at c)
  pub apart : (c d : ℕ) → c < length at → d < length at → tile_at at c ≡ tile_at at d → c ≡ d
  pub linked : (c d : ℕ) → c < length at → d < length at → is_next (chunk_of chunks c) (chunk_of chunks d) ≡ true → Follows stretches (tile_at at c) (tile_at at d)

-- what that says of the chip: each cluster stands on a site, and a run's next chunk on the site that is linked to it
pub record IsLegalOn (parts : Parts) (chunks : List (Option (ℕ × ℕ))) (at : List TileAt) : Type 0 where
  pub counts : length at ≡ length chunks
  pub sites : (c : ℕ) → c < length at → is_site parts (tile_at at c) ≡ true
  pub apart : (c d : ℕ) → c < length at → d < length at → tile_at at c ≡ tile_at at d → c ≡ d
  pub linked : (c d : ℕ) → c < length at → d < length at → is_next (chunk_of chunks c) (chunk_of chunks d) ≡ true → is_link parts (tile_at at c) (tile_at at d) ≡ true
