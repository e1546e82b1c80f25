-- What the bits of functions say of each slot, tile and pad of a placed design.
use Rattle.std.specs.Prelude.{◌≡◌, ℕ, zero, ◌<◌, Bool, true, false, Option, None, Some, List, length, is_some, slice_get}
use Rattle.ice_base.specs.declared.number.TileAt.{TileAt}
use Rattle.ice_base_values.specs.Order.{At, Has}
use Rattle.ice_chip.specs.Database.{Parts}
use Rattle.ice_chip.specs.Names.{falling_clock_function, input_enable_function}
use Rattle.ice_chip.specs.FunctionNames.{carry_set_function}
use Rattle.ice_chip.specs.Indices.{enables_of}
use Rattle.ice_chip.specs.declared.rows.Pad.{Pad}
use Rattle.ice_bits.specs.Configuration.{Bits}
use Rattle.ice_bits.specs.Settings.{set_at}
use Rattle.ice_net.specs.declared.kind.Reset.{Reset}
use Rattle.ice_net.specs.declared.kind.Reset.TheVariants.{Nothing, SyncReset, AsyncReset, SyncSet, AsyncSet}
use Rattle.ice_net.specs.Meaning.{number_of, table_bit}
use Rattle.ice_decode.specs.declared.driver.Switch.{Switch}
use Rattle.ice_decode.specs.Cells.{has_flop, has_carry, looked_up, reset_of}
use Rattle.ice_decode.specs.FirstFaults.{foreign_function}
use Rattle.ice_decode.specs.Meaning.{passes}
use Rattle.ice_decode.specs.Pads.{pads, pin_type, is_enabled}
use Rattle.ice_cells.specs.declared.cell.Control.{Control}
use Rattle.ice_cells.specs.declared.cell.LogicCell.{LogicCell}
use Rattle.ice_cells.specs.declared.cluster.Cluster.{Cluster}
use Rattle.ice_cells.specs.declared.design.DesignPad.{DesignPad}
use Rattle.ice_cells.specs.declared.design.Run.{Run}
use Rattle.ice_place_defs.specs.Plan.{Plan}
use Rattle.ice_ram.specs.Ram.{Kept}
use Rattle.ice_ram.specs.declared.setup.Setup.{Setup}
use Rattle.ice_emit_defs.specs.Arrivals.{Held, written_table}
use Rattle.ice_emit_defs.specs.Rams.{AreRamsSet}
use Rattle.ice_emit_defs.specs.Slots.{IsOn, StandsIn}

-- a flip-flop that is neither set nor reset is read as one that is reset at the clock's edge
abbrev pub read_reset : Reset → Reset
read_reset Nothing = SyncReset
read_reset SyncReset = SyncReset
read_reset AsyncReset = AsyncReset
read_reset SyncSet = SyncSet
read_reset AsyncSet = AsyncSet

-- the settings of a cell stand in the slot
pub record IsCellSet (parts : Parts) (bits : Bits) (held : Held) (t : TileAt) (i : ℕ) (cell : LogicCell) : Type 0 where
  pub flop : has_flop parts bits t i ≡ is_some cell.flop
  pub carry : has_carry parts bits t i ≡ cell.carry
  pub table : (xs : List Bool) → length xs ≡ 4 → looked_up parts bits t i xs ≡ table_bit (written_table parts held t i cell) (number_of xs)
  pub reset : (control : Control) (kind : Reset) → cell.flop ≡ Some (control, kind) → reset_of parts bits t i ≡ read_reset kind

-- no cell stands in the slot: it has neither flip-flop nor carry
pub record IsFreeSlot (parts : Parts) (bits : Bits) (t : TileAt) (i : ℕ) : Type 0 where
  pub flop : has_flop parts bits t i ≡ false
  pub carry : has_carry parts bits t i ≡ false

-- the clock's edge, and the carry into a run
pub record IsTileSet (parts : Parts) (plan : Plan) (bits : Bits) (t : TileAt) (cluster : Cluster) : Type 0 where
  pub edge : (control : Control) → cluster.control ≡ Some control → set_at parts bits t falling_clock_function 0 ≡ control.falling
  pub entry : (r : ℕ) (run : Run) → cluster.run ≡ Some (r, zero) → At plan.design.runs r run → set_at parts bits t carry_set_function 0 ≡ run.set

pub record AreSet (parts : Parts) (plan : Plan) (rams : List (Setup × Kept)) (wanted : List Switch) (held : Held) (bits : Bits) : Type 0 where
  pub cells : (t : TileAt) (i c : ℕ) (cell : LogicCell) → StandsIn plan t i c cell → IsCellSet parts bits held t i cell
  pub free : (t : TileAt) (i : ℕ) → i < 8 → ((c : ℕ) (cell : LogicCell) → StandsIn plan t i c cell → ⊥) → IsFreeSlot parts bits t i
  pub tiles : (t : TileAt) (cluster : Cluster) → IsOn plan t cluster → IsTileSet parts plan bits t cluster
  -- the column buffers let each wanted row through
  pub passing : (s : Switch) → Has wanted s → passes parts bits s ≡ true
  -- a port's pad in an IO tile has the port's type, every other pad none
  pub types : (k : ℕ) (pad : Pad) (port : DesignPad) → At plan.ports k pad → At plan.design.pads k port → Has (pads parts) pad → pin_type parts bits pad ≡ port.pin_type
  pub untyped : (pad : Pad) → Has (pads parts) pad → (Has plan.ports pad → ⊥) → pin_type parts bits pad ≡ 0
  -- the input of a pad that is read is enabled, and an input is disabled only where no pad is read that it enables
  pub enabled : (k : ℕ) (pad : Pad) (port : DesignPad) → At plan.ports k pad → At plan.design.pads k port → port.reads ≡ true → is_enabled parts bits pad ≡ true
  pub disabled : (row : Pad × Pad) → Has (enables_of parts) row → set_at parts bits row.1.tile (input_enable_function row.1.pio) 0 ≡ true
      → (k : ℕ) (port : DesignPad) → At plan.ports k row.0 → At plan.design.pads k port → port.reads ≡ false
  -- no bit is set of a function of a PLL, of a pair of pads or of a cascade of block RAMs
  pub own : foreign_function parts bits ≡ None
  -- block RAMs
  pub rams_set : AreRamsSet parts rams bits
