-- Configurations in which bits were written.
use Rattle.std.specs.Prelude.{◌≡◌, ℕ, Bool, false, List, [], ◌∷◌, ◌++◌, slice_get, slice_set, slice_index_or, if◌then◌else◌}
use Rattle.std.specs.Option.{option_map_or}
use Rattle.ice_base.specs.declared.number.TileAt.{TileAt}
use Rattle.ice_base.specs.declared.bit.BitAt.{BitAt}
use Rattle.ice_chip.specs.Database.{Parts, same_tile}
use Rattle.ice_chip.specs.Listings.{rows_of}
use Rattle.ice_bits.specs.Configuration.{Bits, Configuration, bits_of}
use Rattle.ice_bits.specs.Grids.{kind_in, is_there, IsOf}
use Rattle.ice_bits.specs.Written.{with_bits}

-- ---- the promise of each call that writes
-- the bits where the configuration has a place for them, and 0 elsewhere
abbrev pub where_there : Configuration → Bits → Bits
where_there k bits t b = if is_there k t b then bits t b else false

-- The new configuration has these bits. It has the places, the kinds of tiles, the extra bits and the contents of the old one, and the
-- bits of a chip are still bits of that chip.
pub record Rewrites (old new : Configuration) (wanted : Bits) : Type 0 where
  pub bits : (t : TileAt) (b : BitAt) → bits_of new t b ≡ wanted t b
  pub places : (t : TileAt) (b : BitAt) → is_there new t b ≡ is_there old t b
  pub kinds : (t : TileAt) → kind_in new t ≡ kind_in old t
  pub extras : new.extras ≡ old.extras
  pub contents : new.contents ≡ old.contents
  pub form : (parts : Parts) → IsOf parts old → IsOf parts new

-- the bits with the values of a switch row in its group's bits; of a number that no row has, as they were
abbrev pub with_row : Parts → ℕ → Bits → Bits
with_row parts row bits = option_map_or (λ found. with_bits found.0.tile found.0.bits found.1.values bits) (slice_get (rows_of parts.groups) row) bits

-- ---- the rows of a tile
-- the rows with one bit written; as they were where they have no such place
abbrev pub rows_with : BitAt → Bool → List (List Bool) → List (List Bool)
rows_with b value rows = slice_set rows b.row (slice_set (slice_index_or rows b.row []) b.col value)

-- the first tile that stands here with other rows
abbrev pub tiles_with : TileAt → (List (List Bool) → List (List Bool)) → List (TileAt × List (List Bool)) → List (TileAt × List (List Bool))
tiles_with t change [] = []
tiles_with t change (e ∷ es) = if same_tile t e.0 then (e.0, change e.1) ∷ es else e ∷ tiles_with t change es

-- the configuration with other rows of a tile
abbrev pub with_rows : TileAt → List (List Bool) → Configuration → Configuration
with_rows t rows k = record { tiles = tiles_with t (λ _. rows) k.tiles; kinds = k.kinds; extras = k.extras; contents = k.contents }

-- the configuration with one bit written, where it has a place for it
abbrev pub with_place : TileAt → BitAt → Bool → Configuration → Configuration
with_place t b value k = record { tiles = tiles_with t (rows_with b value) k.tiles; kinds = k.kinds; extras = k.extras; contents = k.contents }

-- the configuration with several bits of a tile written, one after another
abbrev pub with_places : TileAt → List BitAt → List Bool → Configuration → Configuration
with_places t [] values k = k
with_places t (b ∷ places) [] k = k
with_places t (b ∷ places) (value ∷ values) k = with_places t places values (with_place t b value k)

-- the configuration with one extra bit more
abbrev pub with_extra : ℕ × ℕ × ℕ → Configuration → Configuration
with_extra extra k = record { tiles = k.tiles; kinds = k.kinds; extras = k.extras ++ extra ∷ []; contents = k.contents }

-- the configuration with the contents of one block RAM more
abbrev pub with_content : TileAt → List (List Bool) → Configuration → Configuration
with_content t words k = record { tiles = k.tiles; kinds = k.kinds; extras = k.extras; contents = k.contents ++ (t, words) ∷ [] }
