-- What is known of the pads and globals that are assigned.
use Rattle.std.specs.Prelude.{◌≡◌, ◌⊎◌, ℕ, ◌<◌, true, false, Some, IsSome, Ok, List, length, slice_get, slice_index_or}
use Rattle.std.specs.List.{list_any}
use Rattle.ice_base.specs.declared.number.TileAt.{TileAt}
use Rattle.ice_net.specs.NetlistData.{NetlistData}
use Rattle.ice_pcf.specs.declared.constraint.Constraint.{Constraint}
use Rattle.ice_chip.specs.Database.{Parts, PackageRows, same_pad}
use Rattle.ice_chip.specs.Lookups.{package_of, global_of, gbufpin_of, padin_of}
use Rattle.ice_chip.specs.IsRead.{IsChip}
use Rattle.ice_chip.specs.Names.{output_enable_name}
use Rattle.ice_chip.specs.WireNames.{fabout_name}
use Rattle.ice_chip.specs.declared.rows.Pad.{Pad}
use Rattle.ice_cells.specs.declared.design.DesignPad.{DesignPad}
use Rattle.ice_cells.specs.declared.design.Design.{Design}
use Rattle.ice_cells.specs.declared.root.Root.TheVariants.{PadIn}
use Rattle.ice_chip_sockets.specs.Sockets.{has_io_wire, gives, is_driven}
use Rattle.ice_chip_sockets.specs.Pins.{IsRamPin}
use Rattle.ice_pads.specs.declared.closing.Closing.{Closing}
use Rattle.ice_pads.specs.Globals.{global_wire}
use Rattle.ice_pads.specs.Assign.{PadsData, assign_of}

-- the pad has the wires that a pad of a design needs: a pad that is read its input, one that drives its output, and one that
-- drives where it is enabled its enable
pub record HasWires (parts : Parts) (p : DesignPad) (pad : Pad) : Type 0 where
  pub input : p.reads ≡ true → gives parts pad ≡ true
  pub output : (p.pin_type ≡ 25) ⊎ (p.pin_type ≡ 41) → is_driven parts pad ≡ true
  pub enable : p.pin_type ≡ 41 → has_io_wire parts pad.tile (output_enable_name pad.pio) ≡ true

-- a wire has the name of the global
pub record HasGlobalWire (parts : Parts) (n : ℕ) : Type 0 where
  pub below : n < 8
  pub wire : IsSome (global_wire parts n)

-- the global buffer takes the level of a port's pad, which the row of the global names, and the global's extra bit is no other's
pub record IsDirect (parts : Parts) (d : Design) (pads : PadsData) (k n : ℕ) : Type 0 where
  pub port : ℕ
  pub root : slice_get d.globals k ≡ Some (Some (PadIn port))
  pub pad : Pad
  pub there : slice_get pads.ports port ≡ Some pad
  pub fed_by : gbufpin_of parts n ≡ Some pad
  pub extra : ℕ × ℕ × ℕ
  pub extra_of : padin_of parts n ≡ Some extra
  pub alone : (m : ℕ) → padin_of parts m ≡ Some extra → m ≡ n

-- an IO tile with a wire `fabout` feeds the global
pub record IsFed (parts : Parts) (n : ℕ) : Type 0 where
  pub tile : TileAt
  pub feeds : global_of parts n ≡ Some tile
  pub fabout : has_io_wire parts tile fabout_name ≡ true

-- what is known of the pads and globals of a design in a package, beside so many block RAMs
pub record ArePads (parts : Parts) (rows : PackageRows) (rams : ℕ) (d : Design) (pads : PadsData) : Type 0 where
  -- each port has a pad, and a pull-up or none
  pub ports : length pads.ports ≡ length d.pads
  pub pullups : length pads.pullups ≡ length d.pads
  -- the pad is one of the package, or a pin of one of the block RAMs; no other port has it, and it has the wires that the port needs
  pub bonded : (k : ℕ) (pad : Pad) → slice_get pads.ports k ≡ Some pad → (list_any (same_pad pad) rows.pads ≡ true) ⊎ IsRamPin parts rams pad
  pub apart : (j k : ℕ) (pad : Pad) → slice_get pads.ports j ≡ Some pad → slice_get pads.ports k ≡ Some pad → j ≡ k
  pub wires : (k : ℕ) (p : DesignPad) (pad : Pad) → slice_get d.pads k ≡ Some p → slice_get pads.ports k ≡ Some pad → HasWires parts p pad
  -- each global buffer has a global of which there is a wire, and no other has the same one
  pub globals : length pads.globals ≡ length d.globals
  pub named : (k n : ℕ) → slice_get pads.globals k ≡ Some n → HasGlobalWire parts n
  pub single : (j k n : ℕ) → slice_get pads.globals j ≡ Some n → slice_get pads.globals k ≡ Some n → j ≡ k
  -- some are direct
  pub directs : length pads.direct ≡ length d.globals
  pub direct : (k n : ℕ) → slice_get pads.globals k ≡ Some n → slice_index_or pads.direct k false ≡ true → IsDirect parts d pads k n
  -- the globals of the others are fed, no two by the same tile
  pub fed : (k n : ℕ) → slice_get pads.globals k ≡ Some n → slice_index_or pads.direct k false ≡ false → IsFed parts n
  pub others : (j k n m : ℕ) (tile : TileAt) → slice_get pads.globals j ≡ Some n → slice_get pads.globals k ≡ Some m
      → slice_index_or pads.direct j false ≡ false → slice_index_or pads.direct k false ≡ false → global_of parts n ≡ Some tile → global_of parts m ≡ Some tile → j ≡ k

-- assigned pads and globals are such
abbrev pub AssignedPadsFit : Type 0
AssignedPadsFit =
    (parts : Parts) (name : List ℕ) (constraints : List Constraint) (n : NetlistData) (closing : Closing) (d : Design) (rows : PackageRows) (pads : PadsData)
    → IsChip parts → package_of parts name ≡ Some rows → assign_of parts name constraints n closing d ≡ Ok pads → ArePads parts rows closing.rams d pads
