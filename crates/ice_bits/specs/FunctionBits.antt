-- The bits of a function in a tile of a configuration.
use Rattle.std.specs.Prelude.{◌≡◌, ℕ, Bool, false, Option, None, Some, slice_get, if◌then◌else◌}
use Rattle.std.specs.Option.{option_map_or, option_and_then}
use Rattle.ice_base.specs.declared.number.TileAt.{TileAt}
use Rattle.ice_base.specs.declared.bit.BitAt.{BitAt}
use Rattle.ice_chip.specs.Database.{Parts, FunctionRow}
use Rattle.ice_chip.specs.Lookups.{kind_at, function_of}
use Rattle.ice_bits.specs.Configuration.{Bits, Configuration, bits_of}
use Rattle.ice_bits.specs.Grids.{IsOf, kind_in, is_of_kind, is_there}
use Rattle.ice_bits.specs.Settings.{set_at}
use Rattle.ice_bits.specs.Written.{with_bit}

-- a place that the tile has
abbrev pub if_there : Configuration → TileAt → BitAt → Option BitAt
if_there k t b = if is_there k t b then Some b else None

-- Where the bit numbered `at` of a function stands in a tile. It stands nowhere in a tile that isn't of the function's kind, and nowhere
-- where no tile stands, the function has no such bit, or the tile has no such place.
abbrev pub bit_place : Configuration → TileAt → FunctionRow → ℕ → Option BitAt
bit_place k t f at = if is_of_kind f.kind (kind_in k t) then option_and_then (if_there k t) (slice_get f.bits at) else None

-- the bit; 0 where it stands nowhere
abbrev pub function_value : Configuration → TileAt → FunctionRow → ℕ → Bool
function_value k t f at = option_map_or (bits_of k t) (bit_place k t f at) false

-- the bits with this one written, and all others as they were; where it stands nowhere, all bits as they were
abbrev pub with_function : Configuration → TileAt → FunctionRow → ℕ → Bool → Bits
with_function k t f at value = option_map_or (λ b. with_bit t b value (bits_of k)) (bit_place k t f at) (bits_of k)

-- In a tile of its kind, the bit of one of a chip's functions is the one that the function's name says in the chip.
abbrev pub ReadsByName : Type 0
ReadsByName = (parts : Parts) (k : Configuration) → IsOf parts k → (t : TileAt) (f : FunctionRow) (at : ℕ)
    → function_of parts f.kind f.name ≡ Some f → kind_at parts t ≡ Some f.kind → function_value k t f at ≡ set_at parts (bits_of k) t f.name at
