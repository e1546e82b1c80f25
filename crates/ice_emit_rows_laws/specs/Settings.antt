-- Bits of functions that are set.
use Rattle.std.specs.Prelude.{◌≡◌, ◌&&◌, ℕ, Bool, true, false, Some, List}
use Rattle.std.specs.List.{list_any}
use Rattle.std.specs.Option.{option_map_or}
use Rattle.ice_base.specs.declared.number.TileAt.{TileAt}
use Rattle.ice_base.specs.declared.bit.BitAt.{BitAt}
use Rattle.ice_base_values.specs.Order.{Has}
use Rattle.ice_chip.specs.Database.{Parts, same_tile}
use Rattle.ice_chip.specs.Functions.{is_read}
use Rattle.ice_chip.specs.Lookups.{kind_at}
use Rattle.ice_chip.specs.declared.rows.TileKind.{TileKind}
use Rattle.ice_bits.specs.Configuration.{Bits, same_place}
use Rattle.ice_bits.specs.Settings.{function_bit}

-- a bit of a function of a tile: the function's name, and the number of the bit
pub record Setting : Type 0 where
  pub tile : TileAt
  pub name : List ℕ
  pub number : ℕ

-- this setting sets the bit
abbrev pub sets_one : Parts → TileAt → BitAt → Setting → Bool
sets_one parts t b x = same_tile x.tile t && option_map_or (same_place b) (function_bit parts t x.name x.number) false

abbrev pub function_bits : Parts → List Setting → Bits
function_bits parts settings t b = list_any (sets_one parts t b) settings

-- each is of a function that is read in its tile
pub record AreRead (parts : Parts) (settings : List Setting) : Type 0 where
  pub each : (x : Setting) (kind : TileKind) → Has settings x → kind_at parts x.tile ≡ Some kind → is_read kind x.name ≡ true
