-- The faults of bits, each of which leaves them without a meaning.
use Rattle.std.specs.Prelude.{ℕ, ◌==◌, ◌/◌, ◌%◌, ◌&&◌, ◌||◌, not, Bool, false, Option, None, Some, List, codes, bytes_eq, nat_eq}
use Rattle.std.specs.List.{list_any, starts_with}
use Rattle.ice_base.specs.declared.number.TileAt.{TileAt}
use Rattle.ice_chip.specs.Database.{Parts, FunctionRow}
use Rattle.ice_chip.specs.Functions.{is_foreign, same_kind}
use Rattle.ice_chip.specs.Lookups.{names_of, wire_named}
use Rattle.ice_chip.specs.declared.rows.Pad.{Pad}
use Rattle.ice_chip.specs.declared.rows.TileLine.{TileLine}
use Rattle.ice_bits.specs.Configuration.{Bits}
use Rattle.ice_base_values.specs.Order.{IsCycle}
use Rattle.ice_decode.specs.declared.point.Point.{Point}
use Rattle.ice_decode.specs.declared.driver.Switch.{Switch}
use Rattle.ice_chip.specs.Names.{pad_input_name, falling_clock_function}
use Rattle.ice_decode.specs.Drivers.{switches_on}
use Rattle.ice_decode.specs.Pads.{pads_in, pin_type, has_input_register, has_output_register}
use Rattle.ice_decode.specs.Reads.{depends_on}

-- ---- sources of memories
-- a name of what a memory reads out
abbrev pub is_memory_output : List ℕ → Bool
is_memory_output name = starts_with nat_eq name (codes "ram/RDATA_")

-- the output of a memory
abbrev pub is_memory_wire : Parts → ℕ → Bool
is_memory_wire parts w = list_any (λ n. is_memory_output n.name) (names_of parts w)

-- ---- what is read of pads
-- a row that is on reads the wire
abbrev pub is_wire_read : Parts → Bits → Option ℕ → Bool
is_wire_read parts bits None = false
is_wire_read parts bits (Some w) = list_any (λ (s : Switch). s.source.0 == w) (switches_on bits parts.groups)

-- the input of a pad is read
abbrev pub is_input_read : Parts → Bits → Pad → Bool
is_input_read parts bits pad = is_wire_read parts bits (wire_named parts pad.tile (pad_input_name pad.pio))

-- a register of the pad is in use
abbrev pub uses_register : Parts → Bits → Pad → Bool
uses_register parts bits pad = has_output_register parts bits pad || (has_input_register parts bits pad && is_input_read parts bits pad)

-- ---- functions of PLLs, of pairs of pads, of cascades of block RAMs and of registers of pads
-- a foreign function of this name counts in the tile: the falling clock of registers of pads only beside one that is in use
abbrev pub counts_in : Parts → Bits → TileAt → List ℕ → Bool
counts_in parts bits t name = not (bytes_eq name falling_clock_function) || list_any (uses_register parts bits) (pads_in t)

-- a bit of a foreign function of the tile's kind is set in the tile, where the function counts
abbrev pub is_set_in : Parts → Bits → TileAt × TileLine → FunctionRow → Bool
is_set_in parts bits tile f =
    same_kind f.kind tile.1.kind && is_foreign f.kind f.name && list_any (bits tile.0) f.bits && counts_in parts bits tile.0 f.name

-- ---- loops
-- no points depend on one another in a circle
pub record HasNoLoop (parts : Parts) (bits : Bits) (extras : List (ℕ × ℕ × ℕ)) : Type 0 where
  pub none : (cycle : List Point) → IsCycle (depends_on parts bits extras) cycle → ⊥

-- ---- pin types
-- off, driving what a register keeps, driving, or driving where enabled
abbrev pub is_output_part : ℕ → Bool
is_output_part part = (part == 0) || ((part == 5) || ((part == 6) || (part == 10)))

-- an input that is read has the part 01, or is a register's at a pad that is off
abbrev pub is_input_type : ℕ → Bool
is_input_type value = (value % 4 == 1) || (value == 0)

-- A pad's output part is none of the four, or its input is read while its type is none for that.
abbrev pub has_wrong_type : Parts → Bits → Pad → Bool
has_wrong_type parts bits pad = not (is_output_part (pin_type parts bits pad / 4)) || (is_input_read parts bits pad && not (is_input_type (pin_type parts bits pad)))
