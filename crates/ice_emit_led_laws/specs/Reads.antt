-- Which pins of a placed design read roots.
use Rattle.std.specs.Prelude.{◌≡◌, ℕ, ◌<◌, true, false, None, Some, List, slice_index_or}
use Rattle.ice_base.specs.declared.number.TileAt.{TileAt}
use Rattle.ice_base.specs.declared.number.WireNo.{WireNo}
use Rattle.ice_base_values.specs.Order.{At, Has}
use Rattle.ice_chip.specs.Database.{Parts}
use Rattle.ice_chip.specs.Lookups.{wire_named, global_of}
use Rattle.ice_chip.specs.declared.rows.Pad.{Pad}
use Rattle.ice_cells.specs.declared.cell.Control.{Control}
use Rattle.ice_cells.specs.declared.cell.LogicCell.{LogicCell}
use Rattle.ice_cells.specs.declared.cluster.Cluster.{Cluster}
use Rattle.ice_cells.specs.declared.design.DesignPad.{DesignPad}
use Rattle.ice_cells.specs.declared.root.Root.{Root}
use Rattle.ice_place_defs.specs.Plan.{Plan, is_direct}
use Rattle.ice_place_defs.specs.Loads.{Pin, Input, Clock, Enable, SetReset, Feed, Drive, DriveEnable, pin_name}
use Rattle.ice_emit_nets.specs.Ends.{End, is_free}
use Rattle.ice_emit_defs.specs.Slots.{IsOn, StandsIn}

-- the pin of the tile reads the root; each input of a free cell may read each root of the cell
pub data Reads (parts : Parts) (plan : Plan) : TileAt → Pin → Root → Type 0 where
  AtDrive : (k : ℕ) (pad : Pad) (port : DesignPad) (root : Root) → At plan.ports k pad → At plan.design.pads k port → port.drive ≡ Some root → Reads parts plan pad.tile (Drive pad.pio) root
  AtDriveEnable : (k : ℕ) (pad : Pad) (port : DesignPad) (root : Root) → At plan.ports k pad → At plan.design.pads k port → port.enable ≡ Some root → Reads parts plan pad.tile (DriveEnable pad.pio) root
  AtFeed : (g n : ℕ) (t : TileAt) (root : Root) → At plan.globals g n → At plan.design.globals g (Some root) → is_direct plan g ≡ false → global_of parts n ≡ Some t → Reads parts plan t Feed root
  AtFixed : (t : TileAt) (i k c : ℕ) (cell : LogicCell) (root : Root) → StandsIn plan t i c cell → is_free cell ≡ false → k < 4 → slice_index_or cell.ins k None ≡ Some root → Reads parts plan t (Input i k) root
  AtFree : (t : TileAt) (i k j c : ℕ) (cell : LogicCell) (root : Root) → StandsIn plan t i c cell → is_free cell ≡ true → k < 4 → At cell.ins j (Some root) → Reads parts plan t (Input i k) root
  AtClock : (t : TileAt) (cluster : Cluster) (control : Control) (root : Root) → IsOn plan t cluster → cluster.control ≡ Some control → control.clock ≡ Some root → Reads parts plan t Clock root
  AtEnable : (t : TileAt) (cluster : Cluster) (control : Control) (root : Root) → IsOn plan t cluster → cluster.control ≡ Some control → control.enable ≡ Some root → Reads parts plan t Enable root
  AtReset : (t : TileAt) (cluster : Cluster) (control : Control) (root : Root) → IsOn plan t cluster → cluster.control ≡ Some control → control.reset ≡ Some root → Reads parts plan t SetReset root

-- the sink is of a pin that reads its root, and so is each of its targets
pub record IsEnd (parts : Parts) (plan : Plan) (e : End) : Type 0 where
  pub tile : TileAt
  pub pin : Pin
  pub reads : Reads parts plan tile pin e.0
  pub targets : (w : WireNo) → Has e.1 w → (t : TileAt) × (q : Pin) × Reads parts plan t q e.0 × (wire_named parts t (pin_name q) ≡ Some w.0)

-- no two sinks of one root share a target
abbrev pub AreApart : List End → Type 0
AreApart all = (j k : ℕ) (one other : End) (w : WireNo) → At all j one → At all k other → one.0 ≡ other.0 → Has one.1 w → Has other.1 w → j ≡ k
