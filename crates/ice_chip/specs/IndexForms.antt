-- The maps and lists of a chip, each as what the rows of a database make of it.
use Rattle.std.specs.Prelude.{◌≡◌, [], map, filter, replicate, nat_eq}
use Rattle.ice_chip.specs.Database.{Parts, same_tile}
use Rattle.ice_chip.specs.Lookups.{placed_names, placed_wire, global_tile, fed_pad, buffer_counts, served_tile}
use Rattle.ice_chip.specs.Listings.{tile_of}
use Rattle.ice_chip.specs.Indices.{firsts, numbered, lists_of, listed, enables_of}
use Rattle.ice_chip.specs.NameIndex.{numbered_of, no_names}
use Rattle.ice_chip.specs.NamePlaces.{by_text, by_kind, no_places, function_places, package_places}
use Rattle.ice_chip.specs.declared.indices.WireIndex.{WireIndex}
use Rattle.ice_chip.specs.declared.indices.GlobalIndex.{GlobalIndex}
use Rattle.ice_chip.specs.declared.indices.ServerIndex.{ServerIndex}
use Rattle.ice_chip.specs.declared.indices.PlaceIndex.{PlaceIndex}

-- the tiles, the names of each wire, and the wires by their names at places
pub record IsWireIndex (parts : Parts) (index : WireIndex) : Type 0 where
  pub tiles : index.tiles.items ≡ map tile_of parts.tiles
  pub lists : lists_of index.lists.items ≡ listed (replicate parts.wires []) (placed_names parts)
  pub names : numbered_of index.names ≡ numbered no_names (map placed_wire (placed_names parts))

-- what serves each global: the tile whose `fabout` feeds it, the pad that can feed it, and the extra bit for that; by the first row that says so
pub record IsGlobalIndex (parts : Parts) (index : GlobalIndex) : Type 0 where
  pub tiles : index.tiles.entries ≡ firsts nat_eq [] (map global_tile parts.gbufin)
  pub pads : index.pads.entries ≡ firsts nat_eq [] (map fed_pad parts.gbufpin)
  pub extras : index.extras.entries ≡ firsts nat_eq [] parts.padin

-- what serves each global, pad and tile, by the first row that says so and counts
pub record IsServerIndex (parts : Parts) (index : ServerIndex) : Type 0 where
  pub globals : IsGlobalIndex parts index.globals
  pub enables : index.enables.entries ≡ enables_of parts
  pub buffers : index.buffers.entries ≡ firsts same_tile [] (map served_tile (filter (buffer_counts parts.tiles parts.functions) parts.colbuf))

-- where the first functions and packages of each name stand
pub record IsPlaceIndex (parts : Parts) (index : PlaceIndex) : Type 0 where
  pub functions : by_kind index.functions ≡ function_places no_places 0 parts.functions
  pub packages : by_text index.packages.entries ≡ package_places [] 0 parts.packages
