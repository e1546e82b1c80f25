-- Logic sites, and links between them.
use Rattle.std.specs.Prelude.{ℕ, zero, suc, ◌+◌, ◌==◌, Bool, true, false, ◌&&◌, Option, None, Some, List, is_some}
use Rattle.ice_base.specs.declared.number.TileAt.{TileAt}
use Rattle.ice_chip.specs.Database.{Parts}
use Rattle.ice_chip.specs.Lookups.{kind_at, wire_named}
use Rattle.ice_chip.specs.Names.{input_name}
use Rattle.ice_chip.specs.WireNames.{output_name, carry_out_name, clock_name, clock_enable_name, set_reset_name, carry_in_name, first_carry_name}
use Rattle.ice_chip.specs.declared.rows.TileKind.{TileKind}
use Rattle.ice_chip.specs.declared.rows.TileKind.TheVariants.{Io, Logic, RamBottom, RamTop}
use Rattle.ice_bits_rows.specs.FirstSound.{first_sound}

-- ---- wires of a tile
abbrev pub has_wire : Parts → TileAt → List ℕ → Bool
has_wire parts t name = is_some (wire_named parts t name)

-- both wires are there, and a sound row leads from the one to the other
abbrev pub leads : Parts → Option ℕ → Option ℕ → Bool
leads parts None target = false
leads parts (Some source) None = false
leads parts (Some source) (Some target) = is_some (first_sound parts source target)

-- both wires are there, and they are the same
abbrev pub is_same_wire : Option ℕ → Option ℕ → Bool
is_same_wire None other = false
is_same_wire (Some wire) None = false
is_same_wire (Some wire) (Some other) = wire == other

-- ---- sites
abbrev pub is_logic_kind : TileKind → Bool
is_logic_kind Io = false
is_logic_kind Logic = true
is_logic_kind RamBottom = false
is_logic_kind RamTop = false

abbrev pub is_logic : Option TileKind → Bool
is_logic None = false
is_logic (Some kind) = is_logic_kind kind

-- each number below this one passes the test
unfoldable pub all_below : (ℕ → Bool) → ℕ → Bool
all_below test zero = true
all_below test (suc n) = all_below test n && test n

-- the tile has the inputs and the output of a cell
abbrev pub has_cell : Parts → TileAt → ℕ → Bool
has_cell parts t i =
    has_wire parts t (input_name i 0) && has_wire parts t (input_name i 1) && has_wire parts t (input_name i 2) && has_wire parts t (input_name i 3)
    && has_wire parts t (output_name i)

-- a cell's carry goes to input 3 of the next cell
abbrev pub has_chain : Parts → TileAt → ℕ → Bool
has_chain parts t i = leads parts (wire_named parts t (carry_out_name i)) (wire_named parts t (input_name (i + 1) 3))

-- what the cells of a tile share: a clock, an enable, a set or reset
abbrev pub has_controls : Parts → TileAt → Bool
has_controls parts t = has_wire parts t clock_name && has_wire parts t clock_enable_name && has_wire parts t set_reset_name

-- the carry into a tile goes to input 3 of its first cell
abbrev pub has_entry : Parts → TileAt → Bool
has_entry parts t = leads parts (wire_named parts t first_carry_name) (wire_named parts t (input_name 0 3))

-- a logic tile with eight cells, their controls, and a carry that goes in and from cell to cell
abbrev pub is_site : Parts → TileAt → Bool
is_site parts t = is_logic (kind_at parts t) && all_below (has_cell parts t) 8 && has_controls parts t && has_entry parts t && all_below (has_chain parts t) 7

-- ---- links
-- the tile stands directly above the other one
abbrev pub is_above : TileAt → TileAt → Bool
is_above low high = (low.x == high.x) && (low.y + 1 == high.y)

-- the carry of a tile's last cell goes into the tile above it
abbrev pub is_link : Parts → TileAt → TileAt → Bool
is_link parts low high =
    is_above low high && is_same_wire (wire_named parts high carry_in_name) (wire_named parts low (carry_out_name 7))
    && leads parts (wire_named parts high carry_in_name) (wire_named parts high first_carry_name)
