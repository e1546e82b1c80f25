-- All sites in order, and clusters that stand one behind the other.
use Rattle.std.specs.Prelude.{◌≡◌, ℕ, suc, ◌<◌, true, Option, List, [], ◌∷◌, length, flat_map}
use Rattle.ice_base.specs.declared.number.TileAt.{TileAt}
use Rattle.ice_sites.specs.Legal.{Follows, is_next, chunk_of, tile_at}
use Rattle.ice_place.specs.Place.{joined}
use Rattle.ice_anneal.specs.declared.order.SiteOrder.{SiteOrder}

-- how many sites there are from each site of a stretch on
abbrev pub rooms : List TileAt → List ℕ
rooms [] = []
rooms (t ∷ sites) = suc (length sites) ∷ rooms sites

-- the sites, stretch by stretch
pub record IsOrder (stretches : List (List TileAt)) (order : SiteOrder) : Type 0 where
  pub tiles : order.tiles.items ≡ joined stretches
  pub room : order.room.items ≡ flat_map rooms stretches

-- the chunks of a run stand upwards on linked sites
abbrev pub IsLinked : List (List TileAt) → List (Option (ℕ × ℕ)) → List TileAt → Type 0
IsLinked stretches chunks place = (c d : ℕ) → c < length chunks → d < length chunks → is_next (chunk_of chunks c) (chunk_of chunks d) ≡ true → Follows stretches (tile_at place c) (tile_at place d)
