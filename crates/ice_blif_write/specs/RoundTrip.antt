-- Netlists that are read from the text that is written for them.
use Rattle.std.specs.Prelude.{◌≡◌, ◌≢◌, ℕ, ◌<◌, ◌^◌, false, List, map, Option, Some, None, codes, All}
use Rattle.ice_base.specs.Text.{begins_with}
use Rattle.ice_base.specs.Lines.{IsWord}
use Rattle.ice_base.specs.declared.number.SignalNo.{SignalNo}
use Rattle.ice_net.specs.declared.cell.Cell.{Cell}
use Rattle.ice_net.specs.declared.kind.CellKind.{CellKind}
use Rattle.ice_net.specs.declared.kind.CellKind.TheVariants.{Lut, Cover, Carry, Flop, PadCell, Global}
use Rattle.ice_net.specs.declared.port.Port.{Port}
use Rattle.ice_net.specs.declared.port.Way.{Way}
use Rattle.ice_net.specs.Formed.{IsFormed, IsSingle}
use Rattle.ice_net.specs.NetlistData.{NetlistData}
use Rattle.ice_blif.specs.Grammar.{HasNetlistAlone}
use Rattle.ice_blif_write.specs.Text.{name_of, blif_text}

-- ---- what can be written
-- a name: a word that begins no comment; 35 is `#`
pub record IsName (name : List ℕ) : Type 0 where
  pub word : IsWord name
  pub no_comment : begins_with 35 name ≡ false

-- not the signal `$undef`, which as an output of a gate makes no appearance
abbrev pub IsDefined : List (List ℕ) → Option SignalNo → Type 0
IsDefined names None = Unit {0}
IsDefined names (Some signal) = name_of names signal ≢ codes "$undef"

-- the outputs of a cell other than a cover are not `$undef`
abbrev pub AreDefined : List (List ℕ) → CellKind → List (Option SignalNo) → Type 0
AreDefined names (Lut table) outs = All (IsDefined names) outs
AreDefined names (Cover table width) outs = Unit {0}
AreDefined names Carry outs = All (IsDefined names) outs
AreDefined names (Flop falling enable reset) outs = All (IsDefined names) outs
AreDefined names (PadCell pin_type pullup) outs = All (IsDefined names) outs
AreDefined names Global outs = All (IsDefined names) outs

abbrev pub IsDefinedCell : List (List ℕ) → Cell → Type 0
IsDefinedCell names cell = AreDefined names cell.kind cell.outs

-- the table of a look-up table has sixteen bits
abbrev pub IsSmallKind : CellKind → Type 0
IsSmallKind (Lut table) = table < 2 ^ 16
IsSmallKind (Cover table width) = Unit {0}
IsSmallKind Carry = Unit {0}
IsSmallKind (Flop falling enable reset) = Unit {0}
IsSmallKind (PadCell pin_type pullup) = Unit {0}
IsSmallKind Global = Unit {0}

abbrev pub IsSmallCell : Cell → Type 0
IsSmallCell cell = IsSmallKind cell.kind

-- a pad that is not taken apart where it is read: its PIN_TYPE is neither 000000 nor 010101 (21)
abbrev pub IsPlainKind : CellKind → Type 0
IsPlainKind (Lut table) = Unit {0}
IsPlainKind (Cover table width) = Unit {0}
IsPlainKind Carry = Unit {0}
IsPlainKind (Flop falling enable reset) = Unit {0}
IsPlainKind (PadCell pin_type pullup) = (pin_type ≢ 0) × (pin_type ≢ 21)
IsPlainKind Global = Unit {0}

abbrev pub IsPlainCell : Cell → Type 0
IsPlainCell cell = IsPlainKind cell.kind

-- the text that is written for the netlist can be read
pub record IsWritable (n : NetlistData) : Type 0 where
  pub names : All IsName n.names
  pub outputs : All (IsDefinedCell n.names) n.cells
  pub plain : All IsPlainCell n.cells

-- ---- what is read
-- the name of a signal that may be missing
abbrev pub named_signal : List (List ℕ) → Option SignalNo → Option (List ℕ)
named_signal names None = None
named_signal names (Some signal) = Some (name_of names signal)

-- a port by the name of its signal
abbrev pub named_port : List (List ℕ) → Port → List ℕ × Way
named_port names port = (name_of names port.signal, port.way)

-- a cell by the names of its signals, without the number of its line
pub record NamedCell : Type 0 where
  pub kind : CellKind
  pub ins : List (Option (List ℕ))
  pub outs : List (Option (List ℕ))

abbrev pub named_cell : List (List ℕ) → Cell → NamedCell
named_cell names cell = record { kind = cell.kind; ins = map (named_signal names) cell.ins; outs = map (named_signal names) cell.outs }

-- the same ports and the same cells in the same order, up to line numbers and the list of names
pub record IsSameByNames (n m : NetlistData) : Type 0 where
  pub ports : map (named_port m.names) m.ports ≡ map (named_port n.names) n.ports
  pub cells : map (named_cell m.names) m.cells ≡ map (named_cell n.names) n.cells

-- the text has this netlist up to line numbers and the list of names, and no RAM
abbrev pub HasSameNetlist : List ℕ → NetlistData → Type 0
HasSameNetlist text n = (m : NetlistData) × HasNetlistAlone text m × IsSameByNames n m

-- the text that is written for a netlist has this netlist
abbrev pub WrittenIsRead : Type 0
WrittenIsRead = (n : NetlistData) → IsFormed n → All IsSmallCell n.cells → IsSingle n → IsWritable n → HasSameNetlist (blif_text n) n
