-- Where a chip has block RAMs: two tiles, one right above the other, with a wire for each pin.
use Rattle.std.specs.Prelude.{ℕ, zero, suc, ◌+◌, ◌&&◌, Bool, true, false, Option, None, Some, is_some, List, filter_map, map, nat_lt, if◌then◌else◌}
use Rattle.std.specs.List.{range_with_len}
use Rattle.std.specs.Option.{option_and_then}
use Rattle.ice_base.specs.declared.number.TileAt.{TileAt}
use Rattle.ice_chip.specs.Database.{Parts}
use Rattle.ice_chip.specs.FunctionNames.{power_up_function, ram_mode_function}
use Rattle.ice_chip.specs.Names.{falling_clock_function}
use Rattle.ice_chip.specs.Functions.{same_kind}
use Rattle.ice_chip.specs.Lookups.{kind_at, wire_named, function_of}
use Rattle.ice_chip.specs.RamNames.{is_lower, ram_name, pin_at}
use Rattle.ice_chip.specs.declared.rows.TileLine.{TileLine}
use Rattle.ice_chip.specs.declared.rows.Pad.{Pad}
use Rattle.ice_chip.specs.declared.rows.TileKind.{TileKind}
use Rattle.ice_chip.specs.declared.rows.TileKind.TheVariants.{RamBottom, RamTop}
use Rattle.ice_chip_rams.specs.declared.ram_site.RamSite.{RamSite}

-- ---- the pins of a site
-- the tile in which a block RAM has the wire of this number
abbrev pub ram_tile : RamSite → ℕ → TileAt
ram_tile s n = if is_lower n then s.lower else s.upper

abbrev pub ram_pin : RamSite → ℕ → Pad
ram_pin s n = pin_at (ram_tile s n) n

-- The pins of a block RAM in the order of their numbers: the 74 wires of a RAM but for the enables of its clocks.
unfoldable pub ram_pins : RamSite → List Pad
ram_pins s = map (ram_pin s) (range_with_len 0 74)

-- ---- the sites of a chip
-- the kind has a function of the name
abbrev pub has_function : Parts → TileKind → List ℕ → Bool
has_function parts kind name = is_some (function_of parts kind name)

-- The functions of block RAMs are there: the edges of both clocks, whether the RAM is in use, and the four digits of its modes.
abbrev pub has_mode : Parts → ℕ → Bool
has_mode parts place = has_function parts RamTop (ram_mode_function place)

abbrev pub has_ram_functions : Parts → Bool
has_ram_functions parts =
    has_function parts RamBottom falling_clock_function && has_function parts RamBottom power_up_function && has_function parts RamTop falling_clock_function
    && (has_mode parts 0 && has_mode parts 1 && has_mode parts 2 && has_mode parts 3)

abbrev pub is_known : TileKind → Option TileKind → Bool
is_known kind None = false
is_known kind (Some known) = same_kind known kind

-- a wire has the name of this number in its tile
abbrev pub is_wired : Parts → RamSite → ℕ → Bool
is_wired parts s n = is_some (wire_named parts (ram_tile s n) (ram_name n))

-- all numbers below this one pass
abbrev pub each_below : (ℕ → Bool) → ℕ → Bool
each_below test zero = true
each_below test (suc n) = each_below test n && test n

-- there is a wire for each pin
unfoldable pub are_wired : Parts → RamSite → Bool
are_wired parts s = each_below (is_wired parts s) 74

-- a lower tile, an upper one, and a wire for each pin
abbrev pub is_site : Parts → RamSite → Bool
is_site parts s = is_known RamBottom (kind_at parts s.lower) && is_known RamTop (kind_at parts s.upper) && are_wired parts s

-- the place and the one right above it; none above the greatest number of a row
abbrev pub site_from : TileAt → Option RamSite
site_from t = if nat_lt t.y 65535 then Some (record { lower = t; upper = record { x = t.x; y = t.y + 1 } }) else None

abbrev pub if_site : Parts → RamSite → Option RamSite
if_site parts s = if is_site parts s then Some s else None

-- the site whose lower tile stands at the place
abbrev pub site_at : Parts → TileAt → Option RamSite
site_at parts t = if has_ram_functions parts then option_and_then (if_site parts) (site_from t) else None

abbrev pub site_of_tile : Parts → TileAt × TileLine → Option RamSite
site_of_tile parts tile = site_at parts tile.0

-- the sites of a chip, in the order of their lower tiles in the database
abbrev pub sites : Parts → List RamSite
sites parts = filter_map (site_of_tile parts) parts.tiles
