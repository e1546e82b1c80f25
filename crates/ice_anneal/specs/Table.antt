-- Which of some clusters are chunks of runs.
use Rattle.std.specs.Prelude.{◌≡◌, ℕ, ◌==◌, ◌&&◌, Bool, false, Option, Some, None, is_some, List}
use Rattle.std.specs.List.{list_any}
use Rattle.std.specs.Map.{lookup}
use Rattle.ice_base.specs.declared.number.TileAt.{TileAt}
use Rattle.ice_sites.specs.Legal.{Follows, tile_at}
use Rattle.ice_anneal.specs.declared.order.SiteOrder.{SiteOrder}
use Rattle.ice_anneal.specs.Order.{IsOrder}
use Rattle.ice_anneal.specs.declared.table.Chunk.{Chunk}

abbrev pub same_chunk : Chunk → Chunk → Bool
same_chunk a b = (a.run == b.run) && (a.number == b.number)

-- whether a cluster is this chunk
abbrev pub is_chunk : Chunk → Option (ℕ × ℕ) → Bool
is_chunk chunk None = false
is_chunk chunk (Some own) = (chunk.run == own.0) && (chunk.number == own.1)

-- the entries have the chunks that these clusters are, and no other
abbrev pub Knows : List (Option (ℕ × ℕ)) → List (Chunk × ℕ) → Type 0
Knows chunks entries = (chunk : Chunk) → is_some (lookup (same_chunk chunk) entries) ≡ list_any (is_chunk chunk) chunks

-- by the entries this cluster is the chunk
abbrev pub IsOnce : List (Chunk × ℕ) → Chunk → ℕ → Type 0
IsOnce entries chunk c = lookup (same_chunk chunk) entries ≡ Some c

-- by the entries the chunk, where some cluster is it, stands directly behind a tile
abbrev pub IsFollowed : SiteOrder → List (Chunk × ℕ) → List TileAt → TileAt → Chunk → Type 0
IsFollowed order entries place low next = (d : ℕ) → IsOnce entries next d → (stretches : List (List TileAt)) → IsOrder stretches order → Follows stretches low (tile_at place d)
