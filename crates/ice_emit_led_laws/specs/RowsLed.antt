-- The rows that are turned on for a placed and routed design: into different wires, each on its way from a root, or a link.
use Rattle.std.specs.Prelude.{◌≡◌, ◌⊎◌, ℕ, ◌<◌, true, Some, List}
use Rattle.ice_base.specs.declared.number.TileAt.{TileAt}
use Rattle.ice_base_values.specs.Order.{At, Has}
use Rattle.ice_chip.specs.Database.{Parts}
use Rattle.ice_chip.specs.Lookups.{kind_at, wire_named}
use Rattle.ice_chip.specs.Names.{input_name, pad_input_name}
use Rattle.ice_chip.specs.RamNames.{ram_name, is_clock_enable, is_read_out, pin_at}
use Rattle.ice_chip.specs.WireNames.{carry_out_name}
use Rattle.ice_chip.specs.declared.rows.Pad.{Pad}
use Rattle.ice_chip.specs.declared.rows.TileKind.TheVariants.{Logic}
use Rattle.ice_chip_sockets.specs.Sockets.{has_ram_wire_in}
use Rattle.ice_decode.specs.declared.driver.Switch.{Switch}
use Rattle.ice_decode.specs.Pads.{pads}
use Rattle.ice_cells.specs.declared.cell.LogicCell.{LogicCell}
use Rattle.ice_cells.specs.declared.cluster.Cluster.{Cluster}
use Rattle.ice_cells.specs.declared.design.DesignPad.{DesignPad}
use Rattle.ice_cells.specs.declared.root.Root.{Root}
use Rattle.ice_cells.specs.Readings.{is_read}
use Rattle.ice_emit_rows_laws.specs.Wanted.{AreWanted}
use Rattle.ice_place_defs.specs.Plan.{Plan}
use Rattle.ice_emit_nets.specs.Nets.{root_wire}
use Rattle.ice_emit_defs.specs.Led.{IsBare, IsEntryLed, IsLinked, IsOfRoot, IsLink}
use Rattle.ice_emit_defs.specs.Links.{carry_source}
use Rattle.ice_emit_defs.specs.Slots.{IsOn, StandsIn}

pub record AreRowsLed (parts : Parts) (plan : Plan) (wanted : List Switch) : Type 0 where
  pub rows : AreWanted parts wanted
  -- no row enters the wire of a root that is read, nor that of a carry of a cell
  pub roots : (root : Root) (v : ℕ) → is_read plan.design root ≡ true → root_wire parts plan root ≡ Some v → IsBare wanted v
  pub carries : (t : TileAt) (i w : ℕ) → kind_at parts t ≡ Some Logic → i < 8 → wire_named parts t (carry_out_name i) ≡ Some w → IsBare wanted w
  -- the carry into a tile is that of the tile below for each chunk of a run but the first, and no row brings another
  pub entries : (t : TileAt) (cluster : Cluster) → IsOn plan t cluster → IsEntryLed parts plan wanted t cluster.run
  -- it comes to each last input that takes it
  pub chained : (t : TileAt) (i c : ℕ) (cell : LogicCell) → StandsIn plan t i c cell → cell.carry_to_in3 ≡ true → IsLinked wanted (carry_source parts t i) (wire_named parts t (input_name i 3))
  -- nor the enable of a clock of a block RAM
  pub clock_enables : (t : TileAt) (n w : ℕ) → is_clock_enable n ≡ true → has_ram_wire_in n (kind_at parts t) ≡ true → wire_named parts t (ram_name n) ≡ Some w → IsBare wanted w
  -- each row leads on from a root or is a link; one that leaves the input of a pad leaves that of a port's pad that is read, and one that
  -- leaves what a block RAM reads out leaves a port's pin
  pub origins : (s : Switch) → Has wanted s → IsOfRoot parts plan wanted s.source ⊎ IsLink parts plan s
  pub inputs : (s : Switch) (pad : Pad) → Has wanted s → Has (pads parts) pad → wire_named parts pad.tile (pad_input_name pad.pio) ≡ Some s.source.0
      → (k : ℕ) × (port : DesignPad) × At plan.ports k pad × At plan.design.pads k port × (port.reads ≡ true)
  pub outputs : (s : Switch) (t : TileAt) (n : ℕ) → Has wanted s → is_read_out n ≡ true → wire_named parts t (ram_name n) ≡ Some s.source.0 → Has plan.ports (pin_at t n)
