-- Which kinds of tiles have column buffers, each tested once.
use Rattle.std.specs.Prelude.{◌≡◌, List}
use Rattle.ice_chip.specs.Database.{FunctionRow}
use Rattle.ice_chip.specs.LacksFunction.{has_column_buffers}
use Rattle.ice_chip.specs.declared.rows.TileKind.TheVariants.{Io, Logic, RamBottom, RamTop}
use Rattle.ice_chip.specs.declared.index.BufferKinds.{BufferKinds}

pub record IsOfKinds (functions : List FunctionRow) (kinds : BufferKinds) : Type 0 where
  pub io : kinds.io ≡ has_column_buffers Io functions
  pub logic : kinds.logic ≡ has_column_buffers Logic functions
  pub ram_bottom : kinds.ram_bottom ≡ has_column_buffers RamBottom functions
  pub ram_top : kinds.ram_top ≡ has_column_buffers RamTop functions
