-- What writing does to bits.
use Rattle.std.specs.Prelude.{Bool, ◌&&◌, List, [], ◌∷◌, if◌then◌else◌}
use Rattle.ice_base.specs.declared.number.TileAt.{TileAt}
use Rattle.ice_base.specs.declared.bit.BitAt.{BitAt}
use Rattle.ice_chip.specs.Database.{same_tile}
use Rattle.ice_bits.specs.Configuration.{Bits, same_place}

-- the bits with one at a place of a tile written, and all others as they were
abbrev pub with_bit : TileAt → BitAt → Bool → Bits → Bits
with_bit tile bit value bits t b = if same_tile tile t && same_place bit b then value else bits t b

-- the bits with several of a tile written, one after another
abbrev pub with_bits : TileAt → List BitAt → List Bool → Bits → Bits
with_bits tile [] values bits t b = bits t b
with_bits tile (p ∷ places) [] bits t b = bits t b
with_bits tile (p ∷ places) (v ∷ values) bits t b = with_bits tile places values (with_bit tile p v bits) t b
