-- What a packed design has of the cells of its netlist, said over finished lists.
use Rattle.std.specs.Prelude.{◌≡◌, ℕ, ◌<◌, Bool, true, false, Option, None, Some, List, [], ◌∷◌, length, slice_index_or}
use Rattle.std.proofs.Common.{◌⊎◌}
use Rattle.ice_base.specs.declared.number.SignalNo.{SignalNo}
use Rattle.ice_base_values.specs.Order.{At}
use Rattle.ice_net.specs.declared.cell.Cell.{Cell}
use Rattle.ice_net.specs.declared.kind.CellKind.TheVariants.{Carry, Flop, PadCell, Global}
use Rattle.ice_net.specs.declared.kind.Reset.{Reset}
use Rattle.ice_net.specs.declared.port.Port.{Port}
use Rattle.ice_net.specs.declared.port.Way.TheVariants.{Output}
use Rattle.ice_net.specs.Uses.{pad_uses}
use Rattle.ice_net.specs.Formed.{IsBelow}
use Rattle.ice_net.specs.NetlistData.{NetlistData}
use Rattle.ice_net.specs.Drivers.{buffer_at}
use Rattle.ice_cells.specs.declared.cell.Control.{Control}
use Rattle.ice_cells.specs.declared.cell.LogicCell.{LogicCell}
use Rattle.ice_cells.specs.declared.design.Design.{Design}
use Rattle.ice_cells.specs.declared.design.DesignPad.{DesignPad}
use Rattle.ice_cells.specs.declared.origin.Origin.{Origin}
use Rattle.ice_cells.specs.declared.origin.Origin.TheVariants.{Fixed, Made}
use Rattle.ice_cells.specs.declared.root.Root.{Root}
use Rattle.ice_cells.specs.declared.root.Root.TheVariants.{CellOut, GlobalOut, CarryOut}
use Rattle.ice_cells.specs.Nodes.{source_node, carry_into}
use Rattle.ice_cells.specs.Origins.{is_table_kind, input_origin, origin}
use Rattle.ice_cells.specs.Uses.{dropped}
use Rattle.ice_cells.specs.Homes.{taker}
use Rattle.ice_cells.specs.Packed.{PackPlan, lut_table, lut_inputs, with_carry, no_inputs, passing_table, plain_sink, sink, pad_root, flop_of, ins_at, enable_input, set_input, carry_input, constant_cell, bare_type, bare_drive}

-- the root of the output of a cell
abbrev pub root_at : PackPlan → ℕ → Option Root
root_at p j = slice_index_or p.roots j None

-- no flip-flop has a cell with this origin for itself
abbrev pub IsOpen : PackPlan → Origin → Type 0
IsOpen p o = (i : ℕ) → o ≡ Made i → taker p.facts i ≡ None

-- a sink that reads 0 where nothing drives it: constant 1 has its cell
pub record IsSunk (d : Design) (p : PackPlan) (input : Option SignalNo) : Type 0 where
  pub opened : IsOpen p (input_origin p.origins input)
  pub one : input_origin p.origins input ≡ Fixed true → At d.cells p.one (constant_cell true)

-- an enable: constant 0 has its cell
pub record IsEnabled (d : Design) (p : PackPlan) (input : Option SignalNo) : Type 0 where
  pub opened : IsOpen p (input_origin p.origins input)
  pub zero : (signal : SignalNo) → input ≡ Some signal → input_origin p.origins input ≡ Fixed false → At d.cells p.zero (constant_cell false)

-- ---- carries
pub record IsCarryCell (n : NetlistData) (d : Design) (p : PackPlan) (c : ℕ) (cell : Cell) : Type 0 where
  pub at : At n.cells c cell
  pub is : cell.kind ≡ Carry
  pub stays : dropped cell.outs ≡ false
  pub first : IsSunk d p (slice_index_or cell.ins 0 None)
  pub second : IsSunk d p (slice_index_or cell.ins 1 None)
  pub into : IsOpen p (input_origin p.origins (slice_index_or cell.ins 2 None))

-- a carry is beside the inputs 1 and 2 of its cell
pub record HasCarry (n : NetlistData) (d : Design) (p : PackPlan) (c : ℕ) (cell : Cell) : Type 0 where
  pub home : ℕ
  pub logic : LogicCell
  pub at : At d.cells home logic
  pub root : root_at p c ≡ Some (CarryOut home)
  pub on : logic.carry ≡ true
  pub one : slice_index_or logic.ins 1 None ≡ sink p (slice_index_or cell.ins 0 None)
  pub two : slice_index_or logic.ins 2 None ≡ sink p (slice_index_or cell.ins 1 None)
  pub comes : carry_into d home ≡ Some (source_node (carry_input p.roots (input_origin p.origins (slice_index_or cell.ins 2 None))))

-- ---- look-up tables
-- the inputs of a carry are read at the inputs 1 and 2 of a look-up table of the same pair
pub record SharesWith (n : NetlistData) (d : Design) (p : PackPlan) (j c : ℕ) : Type 0 where
  pub cell : Cell
  pub carry : IsCarryCell n d p c cell
  pub first : input_origin p.origins (slice_index_or cell.ins 0 None) ≡ input_origin p.origins (slice_index_or (ins_at n.cells j) 1 None)
  pub second : input_origin p.origins (slice_index_or cell.ins 1 None) ≡ input_origin p.origins (slice_index_or (ins_at n.cells j) 2 None)

abbrev pub MayShareWith : NetlistData → Design → PackPlan → ℕ → Option ℕ → Type 0
MayShareWith n d p j None = Unit {0}
MayShareWith n d p j (Some c) = SharesWith n d p j c

pub record HasTable (n : NetlistData) (d : Design) (p : PackPlan) (j : ℕ) : Type 0 where
  pub home : ℕ
  pub logic : LogicCell
  pub at : At d.cells home logic
  pub root : root_at p j ≡ Some (CellOut home)
  pub table : logic.table ≡ lut_table p n.cells j
  pub unchained : logic.carry_to_in3 ≡ false
  pub flop : logic.flop ≡ flop_of p n.cells (taker p.facts j)
  pub carrier : Option ℕ
  pub shares : MayShareWith n d p j carrier
  pub ins : logic.ins ≡ with_carry p n.cells (lut_inputs p n.cells j) carrier
  pub opened : (k : ℕ) (input : Option SignalNo) → At (ins_at n.cells j) k input → IsOpen p (input_origin p.origins input)

-- ---- flip-flops
-- a cell of its own, with a table that passes what the flip-flop takes
pub record IsAlone (n : NetlistData) (p : PackPlan) (input : Option SignalNo) (logic : LogicCell) : Type 0 where
  pub table : logic.table ≡ passing_table (input_origin p.origins input)
  pub ins : logic.ins ≡ plain_sink p input ∷ None ∷ None ∷ None ∷ []
  pub opened : IsOpen p (input_origin p.origins input)

-- the cell of the look-up table that it takes
pub record IsBehind (n : NetlistData) (d : Design) (p : PackPlan) (input : Option SignalNo) (home : ℕ) : Type 0 where
  pub number : ℕ
  pub takes : input_origin p.origins input ≡ Made number
  pub cell : Cell
  pub at : At n.cells number cell
  pub is : is_table_kind cell.kind ≡ true
  pub table : HasTable n d p number
  pub same : table.home ≡ home

pub record HasFlop (n : NetlistData) (d : Design) (p : PackPlan) (j : ℕ) (enable : Bool) (ins : List (Option SignalNo)) : Type 0 where
  pub home : ℕ
  pub logic : LogicCell
  pub at : At d.cells home logic
  pub root : root_at p j ≡ Some (CellOut home)
  pub unchained : logic.carry_to_in3 ≡ false
  pub flop : logic.flop ≡ flop_of p n.cells (Some j)
  pub datum : IsAlone n p (slice_index_or ins 1 None) logic ⊎ IsBehind n d p (slice_index_or ins 1 None) home
  pub clock : IsOpen p (input_origin p.origins (slice_index_or ins 0 None))
  pub enabled : IsEnabled d p (enable_input enable ins)
  pub reset : IsSunk d p (set_input enable ins)

-- ---- where cells of the design come from
-- the output of a cell is that of a flip-flop, of a look-up table, of a carry's cell, or a constant
pub data IsLogicCellOf (n : NetlistData) (d : Design) (p : PackPlan) (c : ℕ) (logic : LogicCell) : Type 0 where
  keeps : (flop : Control × Reset) → logic.flop ≡ Some flop → IsLogicCellOf n d p c logic
  gives : (j : ℕ) (cell : Cell) → At n.cells j cell → is_table_kind cell.kind ≡ true → (table : HasTable n d p j) → table.home ≡ c → IsLogicCellOf n d p c logic
  carries : (j : ℕ) (cell : Cell) → IsCarryCell n d p j cell → logic.ins ≡ with_carry p n.cells no_inputs (Some j) → IsLogicCellOf n d p c logic
  fixed : (level : Bool) → logic ≡ constant_cell level → IsLogicCellOf n d p c logic

-- ---- pads
-- a pad without an SB_IO, or one at the SB_IO of its port
pub data IsPadOf (n : NetlistData) (d : Design) (p : PackPlan) (port : Port) (pad : DesignPad) : Type 0 where
  lies : buffer_at n.cells port.signal.0 ≡ None → pad.pin_type ≡ bare_type port.way → pad.drive ≡ bare_drive p port.way port.signal → pad.enable ≡ None → (port.way ≡ Output → IsSunk d p (Some port.signal))
      → IsPadOf n d p port pad
  through : (j : ℕ) (cell : Cell) (pin_type : ℕ) (pullup : Bool) → buffer_at n.cells port.signal.0 ≡ Some j → At n.cells j cell → cell.kind ≡ PadCell pin_type pullup
      → pad.pin_type ≡ pin_type → pad.drive ≡ sink p (slice_index_or (pad_uses pin_type cell.ins) 0 None) → pad.enable ≡ sink p (slice_index_or (pad_uses pin_type cell.ins) 1 None)
      → ((k : ℕ) (signal : Option SignalNo) → At (pad_uses pin_type cell.ins) k signal → IsSunk d p signal) → IsPadOf n d p port pad

-- ---- the design
pub record IsPacked (n : NetlistData) (d : Design) (p : PackPlan) : Type 0 where
  pub origins : (s : ℕ) → s < length n.names → slice_index_or p.origins s (Fixed false) ≡ origin n s
  pub tables : (j : ℕ) (cell : Cell) → At n.cells j cell → is_table_kind cell.kind ≡ true → HasTable n d p j
  pub flops : (j : ℕ) (cell : Cell) (falling enable : Bool) (reset : Reset) → At n.cells j cell → cell.kind ≡ Flop falling enable reset → HasFlop n d p j enable cell.ins
  pub carries : (j : ℕ) (cell : Cell) → At n.cells j cell → cell.kind ≡ Carry → dropped cell.outs ≡ false → IsCarryCell n d p j cell × HasCarry n d p j cell
  pub globals : (j : ℕ) (cell : Cell) → At n.cells j cell → cell.kind ≡ Global
      → IsSunk d p (slice_index_or cell.ins 0 None) × ((g : ℕ) × (root_at p j ≡ Some (GlobalOut g)) × At d.globals g (sink p (slice_index_or cell.ins 0 None)))
  pub pins : (j pin_type : ℕ) (pullup : Bool) (cell : Cell) → At n.cells j cell → cell.kind ≡ PadCell pin_type pullup
      → root_at p j ≡ pad_root (input_origin p.origins (slice_index_or cell.ins 0 None))
  pub stand : (c : ℕ) (logic : LogicCell) → At d.cells c logic → IsLogicCellOf n d p c logic
  pub unchained : (c : ℕ) (logic : LogicCell) → At d.cells c logic → logic.carry_to_in3 ≡ false
  pub carried : (c : ℕ) (logic : LogicCell) → At d.cells c logic → logic.carry ≡ true → (j : ℕ) × (cell : Cell) × IsCarryCell n d p j cell × (has : HasCarry n d p j cell) × (has.home ≡ c)
  pub buffered : (g : ℕ) (root : Option Root) → At d.globals g root → (input : Option SignalNo) × IsSunk d p input × IsBelow (length n.names) input × (root ≡ sink p input)
  pub ports_long : length d.pads ≡ length n.ports
  pub ports : (k : ℕ) (pad : DesignPad) (port : Port) → At d.pads k pad → At n.ports k port → IsPadOf n d p port pad
