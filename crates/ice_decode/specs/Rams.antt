-- The block RAMs that bits have in use.
use Rattle.std.specs.Prelude.{ℕ, ◌-◌, ◌&&◌, not, nat_lt, Bool, false, Option, None, Some, List, filter, if◌then◌else◌}
use Rattle.std.specs.List.{flat_map}
use Rattle.std.specs.Option.{option_map_or, option_and_then}
use Rattle.ice_base.specs.declared.number.TileAt.{TileAt}
use Rattle.ice_chip.specs.Database.{Parts}
use Rattle.ice_chip.specs.FunctionNames.{power_up_function}
use Rattle.ice_chip.specs.Lookups.{kind_at}
use Rattle.ice_chip.specs.RamNames.{has_ram_wire, ram_number, is_read_out}
use Rattle.ice_chip.specs.declared.placed.PlacedName.{PlacedName}
use Rattle.ice_chip.specs.declared.rows.Pad.{Pad}
use Rattle.ice_chip.specs.declared.rows.TileKind.{TileKind}
use Rattle.ice_chip.specs.declared.rows.TileKind.TheVariants.{Io, Logic, RamBottom, RamTop}
use Rattle.ice_chip_rams.specs.Sites.{site_at, sites, ram_pins}
use Rattle.ice_chip_rams.specs.declared.ram_site.RamSite.{RamSite}
use Rattle.ice_bits.specs.Configuration.{Bits}
use Rattle.ice_bits.specs.Settings.{set_at}

-- a block RAM is in use where its bit for that is 0
abbrev pub is_on : Parts → Bits → RamSite → Bool
is_on parts bits s = not (set_at parts bits s.lower power_up_function 0)

-- those in use, in the order of the sites
abbrev pub rams : Parts → Bits → List RamSite
rams parts bits = filter (is_on parts bits) (sites parts)

-- their pins, those of each in the order of the pins' numbers
abbrev pub pins_of : List RamSite → List Pad
pins_of list = flat_map ram_pins list

-- ---- names of what they read out
-- the lower tile of the block RAM to which a tile of the kind belongs
abbrev pub lower_tile : TileAt → Option TileKind → Option TileAt
lower_tile t None = None
lower_tile t (Some Io) = None
lower_tile t (Some Logic) = None
lower_tile t (Some RamBottom) = Some t
lower_tile t (Some RamTop) = if nat_lt 0 t.y then Some (record { x = t.x; y = t.y - 1 }) else None

-- the block RAM to which the tile belongs is in use
abbrev pub is_in_use : Parts → Bits → TileAt → Bool
is_in_use parts bits t = option_map_or (is_on parts bits) (option_and_then (site_at parts) (lower_tile t (kind_at parts t))) false

-- the wire of this number leads out of a tile of the kind
abbrev pub leads_out : Option TileKind → ℕ → Bool
leads_out None n = false
leads_out (Some kind) n = has_ram_wire kind n && is_read_out n

-- the name is that of an output of a block RAM in use
abbrev pub is_given : Parts → Bits → PlacedName → Bool
is_given parts bits n = option_map_or (leads_out (kind_at parts n.tile)) (ram_number n.name) false && is_in_use parts bits n.tile
