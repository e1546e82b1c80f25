-- Placements that no exchange and no move makes shorter, on finished lists.
use Rattle.std.specs.Prelude.{◌≡◌, ℕ, ◌<◌, ◌≤◌, ◌++◌, ◌||◌, Bool, true, false, not, Option, List, map, replicate, slice_set, length}
use Rattle.std.specs.List.{list_any, swap}
use Rattle.ice_base.specs.declared.number.TileAt.{TileAt}
use Rattle.ice_sites.specs.Legal.{IsAmong, is_next, chunk_of, tile_at}

-- a cluster of a run of several chunks
abbrev pub is_rigid : List (Option (ℕ × ℕ)) → Option (ℕ × ℕ) → Bool
is_rigid chunks own = list_any (λ other. is_next own other || is_next other own) chunks

-- by a measure of placements: no exchange of two clusters that are not of a run of several chunks, and no move of one to a free
-- site, lowers it
pub record IsSwapLeast (measure : List TileAt → ℕ) (chunks : List (Option (ℕ × ℕ))) (stretches : List (List TileAt)) (at : List TileAt) : Type 0 where
  pub exchanges : (c d : ℕ) → c < length at → d < length at → is_rigid chunks (chunk_of chunks c) ≡ false → is_rigid chunks (chunk_of chunks d) ≡ false → measure at ≤ measure (swap at c d)
  pub moves : (c : ℕ) (t : TileAt) → c < length at → is_rigid chunks (chunk_of chunks c) ≡ false → IsAmong stretches t → ((d : ℕ) → d < length at → tile_at at d ≡ t → ⊥) → measure at ≤ measure (slice_set at c t)

-- ---- the tiles of clusters, and behind them those of free sites
-- which may be exchanged; free sites may
abbrev pub free_of : List (Option (ℕ × ℕ)) → ℕ → List Bool
free_of chunks extra = map (λ own. not (is_rigid chunks own)) chunks ++ replicate extra true

-- all sites, each once
pub record IsFull (stretches : List (List TileAt)) (place : List TileAt) : Type 0 where
  pub sites : (c : ℕ) → c < length place → IsAmong stretches (tile_at place c)
  pub apart : (c d : ℕ) → c < length place → d < length place → tile_at place c ≡ tile_at place d → c ≡ d
  pub covers : (t : TileAt) → IsAmong stretches t → (c : ℕ) × (c < length place) × (tile_at place c ≡ t)
