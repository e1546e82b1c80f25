-- The bits of foreign functions, by kinds of tiles.
use Rattle.std.specs.Prelude.{List}
use Rattle.ice_chip.specs.Database.{FunctionRow}
use Rattle.ice_chip.specs.declared.rows.TileKind.TheVariants.{Io, RamBottom, RamTop}
use Rattle.ice_bits_rows.specs.Bundles.{AreForeign}
use Rattle.ice_bits_rows.specs.declared.foreign.ForeignBits.{ForeignBits}

-- these are the bits of the foreign functions among these
pub record AreOfForeign (functions : List FunctionRow) (bits : ForeignBits) : Type 0 where
  pub io : AreForeign functions Io bits.io.items
  pub ram_bottom : AreForeign functions RamBottom bits.ram_bottom.items
  pub ram_top : AreForeign functions RamTop bits.ram_top.items
