-- What the pins of a placed and routed design read is led to them.
use Rattle.std.specs.Prelude.{◌≡◌, ℕ, ◌<◌, Bool, true, false, Option, None, Some, List, slice_index_or}
use Rattle.ice_base.specs.declared.number.TileAt.{TileAt}
use Rattle.ice_base_values.specs.Order.{At}
use Rattle.ice_chip.specs.Database.{Parts, PackageRows}
use Rattle.ice_chip.specs.IsRead.{IsChip}
use Rattle.ice_chip.specs.Lookups.{wire_named, global_of}
use Rattle.ice_chip.specs.Names.{input_name}
use Rattle.ice_chip.specs.WireNames.{fabout_name}
use Rattle.ice_chip.specs.declared.rows.Pad.{Pad}
use Rattle.ice_decode.specs.declared.driver.Switch.{Switch}
use Rattle.ice_decode.specs.Pads.{pads}
use Rattle.ice_cells.specs.declared.cell.Control.{Control}
use Rattle.ice_cells.specs.declared.cell.LogicCell.{LogicCell}
use Rattle.ice_cells.specs.declared.cluster.Cluster.{Cluster}
use Rattle.ice_cells.specs.declared.design.DesignPad.{DesignPad}
use Rattle.ice_cells.specs.declared.root.Root.{Root}
use Rattle.ice_place_defs.specs.Plan.{Plan, is_direct}
use Rattle.ice_emit_nets.specs.Ends.{is_free}
use Rattle.ice_graph.specs.Leading.{Route}
use Rattle.ice_emit_defs.specs.Arrivals.{Held}
use Rattle.ice_emit_defs.specs.Led.{IsLed, IsFreeLed, IsControlLed, IsPadLed, IsSocket}
use Rattle.ice_emit_defs.specs.Routed.{IsPlaced, AreTrees}
use Rattle.ice_emit_defs.specs.Slots.{IsOn, StandsIn}
use Rattle.ice_emit_defs.specs.Written.{wanted_rows, held_by}

-- Each pin that reads a root is led to from the root's wire, and no wanted row enters one that reads nothing. In a free cell each
-- root arrives at a pin of its own.
pub record ArePinsLed (parts : Parts) (plan : Plan) (wanted : List Switch) (held : Held) : Type 0 where
  -- each input of a cell that is not free, but one that takes the carry
  pub fixed : (t : TileAt) (i c : ℕ) (cell : LogicCell) → StandsIn plan t i c cell → is_free cell ≡ false
      → (k : ℕ) → k < 4 → (k ≡ 3 → cell.carry_to_in3 ≡ false) → IsLed parts plan wanted (wire_named parts t (input_name i k)) (slice_index_or cell.ins k None)
  pub free : (t : TileAt) (i c : ℕ) (cell : LogicCell) → StandsIn plan t i c cell → is_free cell ≡ true → IsFreeLed parts plan wanted held t i cell
  pub controls : (t : TileAt) (cluster : Cluster) (control : Control) → IsOn plan t cluster → cluster.control ≡ Some control → IsControlLed parts plan wanted t control
  pub ports : (k : ℕ) (pad : Pad) (port : DesignPad) → At plan.ports k pad → At plan.design.pads k port → IsSocket parts pad → IsPadLed parts plan wanted pad port
  pub feeds : (g n : ℕ) (root : Option Root) (t : TileAt) → At plan.globals g n → At plan.design.globals g root → is_direct plan g ≡ false → global_of parts n ≡ Some t
      → IsLed parts plan wanted (wire_named parts t fabout_name) root

-- the pins of a placed and routed design are such
abbrev pub PinsAreLed : Type 0
PinsAreLed =
    (parts : Parts) (rows : PackageRows) (plan : Plan) (pullups : List Bool) (routes : List Route)
    → IsChip parts → IsPlaced parts rows plan pullups → AreTrees parts plan routes → ArePinsLed parts plan (wanted_rows parts plan routes) (held_by parts plan routes)
