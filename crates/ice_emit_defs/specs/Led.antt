-- How roots come to the pins that read them: by the rows that are turned on, from the root's wire to the pin's.
use Rattle.std.specs.Prelude.{◌≡◌, ◌⊎◌, ℕ, ◌<◌, zero, suc, true, false, Option, None, Some, List, length, slice_index_or}
use Rattle.ice_base.specs.declared.number.TileAt.{TileAt}
use Rattle.ice_base.specs.declared.number.WireNo.{WireNo}
use Rattle.ice_base_values.specs.Order.{At, Has}
use Rattle.ice_chip.specs.Database.{Parts}
use Rattle.ice_chip.specs.Lookups.{kind_at, wire_named, global_of}
use Rattle.ice_chip.specs.Names.{input_name, pad_input_name, output_enable_name}
use Rattle.ice_chip.specs.RamNames.{ram_name, is_clock_enable, is_read_out, pin_at}
use Rattle.ice_chip_rams.specs.Sites.{sites}
use Rattle.ice_chip_sockets.specs.Pins.{IsRamPin}
use Rattle.ice_chip_sockets.specs.Sockets.{driven_name, has_ram_wire_in}
use Rattle.ice_chip.specs.WireNames.{clock_name, clock_enable_name, set_reset_name, fabout_name, carry_out_name, first_carry_name}
use Rattle.ice_chip.specs.declared.rows.Pad.{Pad}
use Rattle.ice_chip.specs.declared.rows.TileKind.TheVariants.{Logic}
use Rattle.ice_decode.specs.declared.driver.Switch.{Switch}
use Rattle.ice_decode.specs.Pads.{pads}
use Rattle.ice_cells.specs.declared.cell.Control.{Control}
use Rattle.ice_cells.specs.declared.cell.LogicCell.{LogicCell}
use Rattle.ice_cells.specs.declared.cluster.Cluster.{Cluster}
use Rattle.ice_cells.specs.declared.design.DesignPad.{DesignPad}
use Rattle.ice_cells.specs.declared.root.Root.{Root}
use Rattle.ice_cells.specs.Readings.{is_read}
use Rattle.ice_emit_rows_laws.specs.Wanted.{AreWanted}
use Rattle.ice_place_defs.specs.Plan.{Plan, is_direct}
use Rattle.ice_emit_nets.specs.Ends.{wire_no, is_free}
use Rattle.ice_emit_nets.specs.Nets.{root_wire}
use Rattle.ice_emit_defs.specs.Arrivals.{Held, arrival}
use Rattle.ice_emit_defs.specs.Links.{carry_source}
use Rattle.ice_emit_defs.specs.Slots.{IsOn, StandsIn}

-- no wanted row enters the wire
abbrev pub IsBare : List Switch → ℕ → Type 0
IsBare wanted w = (s : Switch) → Has wanted s → s.target.0 ≡ w → ⊥

-- wanted rows lead to the first wire from the second
pub data LeadFrom (wanted : List Switch) : WireNo → WireNo → Type 0 where
  Here : (w : WireNo) → LeadFrom wanted w w
  ByRow : (s : Switch) (w : WireNo) → Has wanted s → LeadFrom wanted s.source w → LeadFrom wanted s.target w

-- the wire of a pin is led to from the wire of the root that it reads; where it reads none, no row enters it
abbrev pub IsLed : Parts → Plan → List Switch → Option ℕ → Option Root → Type 0
IsLed parts plan wanted pin None = (w : ℕ) → pin ≡ Some w → IsBare wanted w
IsLed parts plan wanted pin (Some root) = (w : ℕ) × (pin ≡ Some w) × ((v : ℕ) × (root_wire parts plan root ≡ Some v) × LeadFrom wanted (wire_no w) (wire_no v))

-- a wanted row leads from the one wire to the other
abbrev pub IsLinked : List Switch → Option ℕ → Option ℕ → Type 0
IsLinked wanted source target = (s : Switch) × Has wanted s × (source ≡ Some s.source.0) × (target ≡ Some s.target.0)

-- ---- the inputs of the cells
-- of a cell that is not free: each input but a chained one by itself, and the chained one from what comes into the carry
pub record IsFixedLed (parts : Parts) (plan : Plan) (wanted : List Switch) (t : TileAt) (i : ℕ) (cell : LogicCell) : Type 0 where
  pub inputs : (k : ℕ) → k < 4 → (k ≡ 3 → cell.carry_to_in3 ≡ false) → IsLed parts plan wanted (wire_named parts t (input_name i k)) (slice_index_or cell.ins k None)
  pub chained : cell.carry_to_in3 ≡ true → IsLinked wanted (carry_source parts t i) (wire_named parts t (input_name i 3))

-- of a free cell: each signal that it reads arrives at one of its inputs, different ones at different inputs, and no row enters another
pub record IsFreeLed (parts : Parts) (plan : Plan) (wanted : List Switch) (held : Held) (t : TileAt) (i : ℕ) (cell : LogicCell) : Type 0 where
  pub arrive : (k : ℕ) (root : Root) → At cell.ins k (Some root)
      → (j : ℕ) × (j < 4) × (arrival parts (held root) t i ≡ Some j) × IsLed parts plan wanted (wire_named parts t (input_name i j)) (Some root)
  pub apart : (k l j : ℕ) (one other : Root) → At cell.ins k (Some one) → At cell.ins l (Some other) → arrival parts (held one) t i ≡ Some j → arrival parts (held other) t i ≡ Some j → one ≡ other
  pub others : (j : ℕ) → j < 4 → ((k : ℕ) (root : Root) → At cell.ins k (Some root) → arrival parts (held root) t i ≡ Some j → ⊥)
      → IsLed parts plan wanted (wire_named parts t (input_name i j)) None

-- ---- what a tile of cells shares
pub record IsControlLed (parts : Parts) (plan : Plan) (wanted : List Switch) (t : TileAt) (control : Control) : Type 0 where
  pub clock : IsLed parts plan wanted (wire_named parts t clock_name) control.clock
  pub enable : IsLed parts plan wanted (wire_named parts t clock_enable_name) control.enable
  pub reset : IsLed parts plan wanted (wire_named parts t set_reset_name) control.reset

-- the carry into the first cell of a tile: that of the last cell of the tile with the chunk before, where there is one
abbrev pub IsEntryLed : Parts → Plan → List Switch → TileAt → Option (ℕ × ℕ) → Type 0
IsEntryLed parts plan wanted t None = IsLed parts plan wanted (wire_named parts t first_carry_name) None
IsEntryLed parts plan wanted t (Some (r, zero)) = IsLed parts plan wanted (wire_named parts t first_carry_name) None
IsEntryLed parts plan wanted t (Some (r, suc k)) =
    (low : TileAt) × (below : Cluster) × IsOn plan low below × (below.run ≡ Some (r, k)) × IsLinked wanted (wire_named parts low (carry_out_name 7)) (wire_named parts t first_carry_name)

-- ---- pads
-- a pad of an IO tile, or a pin of a block RAM
abbrev pub IsSocket : Parts → Pad → Type 0
IsSocket parts pad = Has (pads parts) pad ⊎ IsRamPin parts (length (sites parts)) pad

pub record IsPadLed (parts : Parts) (plan : Plan) (wanted : List Switch) (pad : Pad) (port : DesignPad) : Type 0 where
  pub drive : IsLed parts plan wanted (wire_named parts pad.tile (driven_name pad.pio)) port.drive
  -- a pin of a block RAM has no enable
  pub enable : Has (pads parts) pad → IsLed parts plan wanted (wire_named parts pad.tile (output_enable_name pad.pio)) port.enable

-- ---- where wanted rows come from
-- the wire is led to from the wire of a root that is read
abbrev pub IsOfRoot : Parts → Plan → List Switch → WireNo → Type 0
IsOfRoot parts plan wanted w = (root : Root) × (is_read plan.design root ≡ true) × (v : ℕ) × (root_wire parts plan root ≡ Some v) × LeadFrom wanted w (wire_no v)

-- a row that brings a carry to a chained input of a cell, or into a tile
abbrev pub IsLink : Parts → Plan → Switch → Type 0
IsLink parts plan s =
    ((t : TileAt) × (i c : ℕ) × (cell : LogicCell) × StandsIn plan t i c cell × (cell.carry_to_in3 ≡ true) × (carry_source parts t i ≡ Some s.source.0) × (wire_named parts t (input_name i 3) ≡ Some s.target.0))
    ⊎ ((t low : TileAt) × (cluster below : Cluster) × (r k : ℕ) × IsOn plan t cluster × (cluster.run ≡ Some (r, suc k)) × IsOn plan low below × (below.run ≡ Some (r, k))
    × (wire_named parts low (carry_out_name 7) ≡ Some s.source.0) × (wire_named parts t first_carry_name ≡ Some s.target.0))

-- ---- all of it
pub record AreLed (parts : Parts) (plan : Plan) (wanted : List Switch) (held : Held) : Type 0 where
  pub rows : AreWanted parts wanted
  -- no row enters the wire of a root that is read, nor that of a carry of a cell
  pub roots : (root : Root) (v : ℕ) → is_read plan.design root ≡ true → root_wire parts plan root ≡ Some v → IsBare wanted v
  pub carries : (t : TileAt) (i w : ℕ) → kind_at parts t ≡ Some Logic → i < 8 → wire_named parts t (carry_out_name i) ≡ Some w → IsBare wanted w
  pub fixed : (t : TileAt) (i c : ℕ) (cell : LogicCell) → StandsIn plan t i c cell → is_free cell ≡ false → IsFixedLed parts plan wanted t i cell
  pub free : (t : TileAt) (i c : ℕ) (cell : LogicCell) → StandsIn plan t i c cell → is_free cell ≡ true → IsFreeLed parts plan wanted held t i cell
  pub controls : (t : TileAt) (cluster : Cluster) (control : Control) → IsOn plan t cluster → cluster.control ≡ Some control → IsControlLed parts plan wanted t control
  pub entries : (t : TileAt) (cluster : Cluster) → IsOn plan t cluster → IsEntryLed parts plan wanted t cluster.run
  pub ports : (k : ℕ) (pad : Pad) (port : DesignPad) → At plan.ports k pad → At plan.design.pads k port → IsSocket parts pad → IsPadLed parts plan wanted pad port
  -- no row enters the enable of a clock of a block RAM
  pub clock_enables : (t : TileAt) (n w : ℕ) → is_clock_enable n ≡ true → has_ram_wire_in n (kind_at parts t) ≡ true → wire_named parts t (ram_name n) ≡ Some w → IsBare wanted w
  pub feeds : (g n : ℕ) (root : Option Root) (t : TileAt) → At plan.globals g n → At plan.design.globals g root → is_direct plan g ≡ false → global_of parts n ≡ Some t
      → IsLed parts plan wanted (wire_named parts t fabout_name) root
  -- each wanted row leads on from a root, or is a link
  pub origins : (s : Switch) → Has wanted s → IsOfRoot parts plan wanted s.source ⊎ IsLink parts plan s
  -- the input of a pad that a wanted row leaves is that of a port's pad that is read
  pub inputs : (s : Switch) (pad : Pad) → Has wanted s → Has (pads parts) pad → wire_named parts pad.tile (pad_input_name pad.pio) ≡ Some s.source.0
      → (k : ℕ) × (port : DesignPad) × At plan.ports k pad × At plan.design.pads k port × (port.reads ≡ true)
  -- what a block RAM reads out and a wanted row leaves is read out of a port's pin
  pub outputs : (s : Switch) (t : TileAt) (n : ℕ) → Has wanted s → is_read_out n ≡ true → wire_named parts t (ram_name n) ≡ Some s.source.0 → Has plan.ports (pin_at t n)
