-- The names of globals that wires have in a tile.
use Rattle.std.specs.Prelude.{ℕ, ◌==◌, Bool, false, Option, None, Some, List, if◌then◌else◌}
use Rattle.std.specs.Option.{option_map_or}
use Rattle.ice_base.specs.declared.number.TileAt.{TileAt}
use Rattle.ice_chip.specs.Database.{Parts}
use Rattle.ice_chip.specs.Lookups.{wire_named}
use Rattle.ice_chip.specs.WireNames.{global_name}
use Rattle.ice_decode.specs.FirstFaults.{first_of}

-- the wire has the name in the tile
abbrev pub is_named : Parts → TileAt → List ℕ → ℕ → Bool
is_named parts t name w = option_map_or (λ v. v == w) (wire_named parts t name) false

-- the global, where the wire has its name in the tile
abbrev pub if_named : Parts → TileAt → ℕ → ℕ → Option ℕ
if_named parts t w n = if is_named parts t (global_name n) w then Some n else None

-- the first of the eight globals whose name the wire has in the tile
abbrev pub global_named : Parts → TileAt → ℕ → Option ℕ
global_named parts t w = first_of (if_named parts t w) 0 8
