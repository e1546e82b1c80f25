-- Well-formed cells and netlists.
use Rattle.std.specs.Prelude.{◌≡◌, ℕ, ◌<◌, ◌≤◌, ◌==◌, ◌^◌, List, length, map, Option, Some, None, All, bytes_eq}
use Rattle.std.specs.List.{IsDistinct}
use Rattle.ice_base.specs.declared.number.SignalNo.{SignalNo}
use Rattle.ice_net.specs.declared.cell.Cell.{Cell}
use Rattle.ice_net.specs.declared.kind.CellKind.{CellKind}
use Rattle.ice_net.specs.declared.kind.CellKind.TheVariants.{Lut, Cover, Carry, Flop, PadCell, Global}
use Rattle.ice_net.specs.declared.port.Port.{Port}
use Rattle.ice_net.specs.Kinds.{ins_count, outs_count}
use Rattle.ice_net.specs.NetlistData.{NetlistData}
use Rattle.ice_net.specs.Ways.{PlacesAre}

-- a missing signal, or a number of a netlist of so many signals
abbrev pub IsBelow : ℕ → Option SignalNo → Type 0
IsBelow signals None = Unit {0}
IsBelow signals (Some s) = s.0 < signals

-- a signal that is there, with a number of a netlist of so many signals
abbrev pub IsPresent : ℕ → Option SignalNo → Type 0
IsPresent signals None = ⊥
IsPresent signals (Some s) = s.0 < signals

-- a cover of at most four inputs: all its signals are there, and its table has a bit for each number of their levels
pub record IsFormedCover (signals table width : ℕ) (ins outs : List (Option SignalNo)) : Type 0 where
  pub narrow : width ≤ 4
  pub fits : table < 2 ^ (2 ^ width)
  pub ins_present : All (IsPresent signals) ins
  pub outs_present : All (IsPresent signals) outs

-- what is asked of the parameters of a kind
abbrev pub IsFormedKind : ℕ → CellKind → List (Option SignalNo) → List (Option SignalNo) → Type 0
IsFormedKind signals (Lut table) ins outs = Unit {0}
IsFormedKind signals (Cover table width) ins outs = IsFormedCover signals table width ins outs
IsFormedKind signals Carry ins outs = Unit {0}
IsFormedKind signals (Flop falling enable reset) ins outs = Unit {0}
IsFormedKind signals (PadCell pin_type pullup) ins outs = pin_type < 64
IsFormedKind signals Global ins outs = Unit {0}

-- a cell over so many signals that has the inputs and outputs of its kind
pub record IsFormedCell (signals : ℕ) (cell : Cell) : Type 0 where
  pub ins_long : length cell.ins ≡ ins_count cell.kind
  pub outs_long : length cell.outs ≡ outs_count cell.kind
  pub ins_below : All (IsBelow signals) cell.ins
  pub outs_below : All (IsBelow signals) cell.outs
  pub kind : IsFormedKind signals cell.kind cell.ins cell.outs

-- the signal of a port is a number of a netlist of so many signals
abbrev pub IsPortBelow : ℕ → Port → Type 0
IsPortBelow signals port = port.signal.0 < signals

-- a netlist whose ports and cells are over its own signals
pub record IsFormed (n : NetlistData) : Type 0 where
  pub few : length n.names ≤ 1073741823
  pub few_cells : length n.cells ≤ 1073741823
  pub ports : All (IsPortBelow (length n.names)) n.ports
  pub cells : All (IsFormedCell (length n.names)) n.cells

-- the numbers of the ports' signals
abbrev pub port_numbers : List Port → List ℕ
port_numbers ports = map (λ (port : Port). port.signal.0) ports

-- no name stands twice, and no signal is a port twice
pub record IsSingle (n : NetlistData) : Type 0 where
  pub names : IsDistinct bytes_eq n.names
  pub ports : IsDistinct ◌==◌ (port_numbers n.ports)

-- what goes with a netlist in memory: the place of each signal's port
pub record IsIndexed (n : NetlistData) (places : List (Option ℕ)) : Type 0 where
  pub formed : IsFormed n
  pub single : IsSingle n
  pub places_are : PlacesAre n.ports places

-- a kind that a word may name, with parameters in range: no cover
abbrev pub IsGateKind : CellKind → Type 0
IsGateKind (Lut table) = Unit {0}
IsGateKind (Cover table width) = ⊥
IsGateKind Carry = Unit {0}
IsGateKind (Flop falling enable reset) = Unit {0}
IsGateKind (PadCell pin_type pullup) = pin_type < 64
IsGateKind Global = Unit {0}
