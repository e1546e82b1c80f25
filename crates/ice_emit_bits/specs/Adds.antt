-- Bits that are set beside those that are there.
use Rattle.std.specs.Prelude.{◌≡◌, ℕ, ◌||◌, ◌&&◌, Bool, List, slice_get}
use Rattle.ice_base.specs.declared.bit.BitAt.{BitAt}
use Rattle.ice_base.specs.declared.number.TileAt.{TileAt}
use Rattle.ice_chip.specs.Database.{Parts, same_tile}
use Rattle.ice_chip.specs.Listings.{rows_of}
use Rattle.ice_bits.specs.Configuration.{Bits, Configuration, bits_of, same_place}
use Rattle.ice_bits.specs.Grids.{IsOf}
use Rattle.ice_bits_rows.specs.Sound.{value_at}
use Rattle.ice_emit_rows_laws.specs.Settings.{Setting}
use Rattle.ice_emit_rows_laws.specs.Wanted.{sets_of}

-- these bits are set, and no other bit changes, no extra bit, and no contents of block RAMs
pub record Adds (parts : Parts) (old new : Configuration) (more : Bits) : Type 0 where
  pub form : IsOf parts new
  pub extras : new.extras ≡ old.extras
  pub contents : new.contents ≡ old.contents
  pub bits : (t : TileAt) (b : BitAt) → bits_of new t b ≡ (bits_of old t b || more t b)

-- Of the bits that are to be set, these are left: with them the bits are what is wanted in the end.
pub record AreLeft (parts : Parts) (old now : Configuration) (whole rest : Bits) : Type 0 where
  pub form : IsOf parts now
  pub extras : now.extras ≡ old.extras
  pub contents : now.contents ≡ old.contents
  pub bits : (t : TileAt) (b : BitAt) → (bits_of now t b || rest t b) ≡ (bits_of old t b || whole t b)

-- two lots of bits
abbrev pub both : Bits → Bits → Bits
both one other t b = one t b || other t b

-- ---- what is set
-- a bit of a tile, where the value is 1
abbrev pub one_bit : TileAt → BitAt → Bool → Bits
one_bit tile place value t b = same_tile tile t && (same_place place b && value)

-- those of the bits at these places of a tile that have the value 1
abbrev pub values_in : TileAt → List BitAt → List Bool → Bits
values_in tile places values t b = same_tile tile t && value_at places values b

-- the bits of the row of this number; none, where no row has it
abbrev pub row_bits : Parts → ℕ → Bits
row_bits parts n t b = sets_of (slice_get (rows_of parts.groups) n) t b

abbrev pub setting_of : TileAt → List ℕ → ℕ → Setting
setting_of tile name number = record { tile = tile; name = name; number = number }
