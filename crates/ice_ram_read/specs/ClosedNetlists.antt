-- The netlist of a text whose RAMs are cut out of it, and these RAMs.
use Rattle.std.specs.Prelude.{ℕ, zero, suc, ◌+◌, ◌-◌, ◌==◌, ◌&&◌, Bool, false, List, [], ◌∷◌, ◌++◌, length, map, decimal, nat_lt, slice_index_or, Option, Some, None, Result, Ok, if◌then◌else◌, codes}
use Rattle.std.specs.List.{list_any}
use Rattle.ice_base.specs.declared.number.SignalNo.{SignalNo}
use Rattle.ice_net.specs.declared.cell.Cell.{Cell}
use Rattle.ice_net.specs.declared.kind.CellKind.{CellKind}
use Rattle.ice_net.specs.declared.kind.CellKind.TheVariants.{Lut, Cover, Carry, Flop, PadCell, Global}
use Rattle.ice_net.specs.declared.port.Way.{Way}
use Rattle.ice_net.specs.declared.port.Way.TheVariants.{Input, Output}
use Rattle.ice_net.specs.Drivers.{is_signal}
use Rattle.ice_net.specs.NetlistData.{NetlistData, with_port}
use Rattle.ice_ram.specs.declared.setup.Setup.{Setup}
use Rattle.ice_ram.specs.Ram.{Kept, start}
use Rattle.ice_blif.specs.declared.fault.BlifFault.{BlifFault}
use Rattle.ice_blif.specs.Cells.{◌>>=◌}
use Rattle.ice_blif.specs.FewSignals.{few_signals}
use Rattle.ice_blif.specs.Registers.{hidden_name}
use Rattle.ice_blif.specs.State.{named, signal_of, with_cell}
use Rattle.ice_blif.specs.Grammar.{netlist_of}
use Rattle.ice_ram_read.specs.RamData.{RamData}
use Rattle.ice_ram_read.specs.RamTexts.{rams_of}

-- ---- the RAM
abbrev pub setup_of : RamData → Setup
setup_of ram = record { read_mode = ram.read_mode; write_mode = ram.write_mode; read_falls = ram.edges.read_falls; write_falls = ram.edges.write_falls }

-- a RAM before its first step
abbrev pub ram_of : RamData → Setup × Kept
ram_of ram = (setup_of ram, start ram.words)

-- ---- its ports
-- the word of port k, behind which its number stands
abbrev pub bus_word : ℕ → List ℕ
bus_word k =
    if nat_lt k 16 then codes "RDATA_" ++ decimal k
    else (if nat_lt k 27 then codes "RADDR_" ++ decimal (k - 16)
    else (if nat_lt k 38 then codes "WADDR_" ++ decimal (k - 27)
    else (if nat_lt k 54 then codes "MASK_" ++ decimal (k - 38)
    else codes "WDATA_" ++ decimal (k - 54))))

abbrev pub lone_word : ℕ → List ℕ
lone_word k = if k == 70 then codes "RCLK" else (if k == 71 then codes "WCLK" else (if k == 72 then codes "RE" else codes "WE"))

abbrev pub port_word : ℕ → List ℕ
port_word k = if nat_lt k 70 then bus_word k else lone_word k

-- an output of the RAM comes in
abbrev pub port_way : ℕ → Way
port_way k = if nat_lt k 16 then Input else Output

-- ---- covers that join ports to signals
abbrev pub cover : ℕ → ℕ → List (Option SignalNo) → SignalNo → Cell
cover line table ins out = record { kind = Cover table (length ins); line = line; ins = ins; outs = Some out ∷ [] }

-- without rows
abbrev pub never : ℕ → SignalNo → Cell
never line out = cover line 0 [] out

-- the level of a signal
abbrev pub passed : ℕ → SignalNo → SignalNo → Cell
passed line signal out = cover line 2 (Some signal ∷ []) out

-- the product of two
abbrev pub product : ℕ → SignalNo → SignalNo → SignalNo → Cell
product line first second out = cover line 8 (Some first ∷ Some second ∷ []) out

abbrev pub is_one_kind : CellKind → Bool
is_one_kind (Lut table) = false
is_one_kind (Cover table width) = table == 1 && width == 0
is_one_kind Carry = false
is_one_kind (Flop falling enable reset) = false
is_one_kind (PadCell pin_type pullup) = false
is_one_kind Global = false

abbrev pub is_one_cell : SignalNo → Cell → Bool
is_one_cell signal cell = is_one_kind cell.kind && is_signal signal.0 (slice_index_or cell.outs 0 None)

-- a cover without inputs drives the signal, and gives 1
abbrev pub is_one : NetlistData → SignalNo → Bool
is_one n signal = list_any (is_one_cell signal) n.cells

-- an input that is missing is 0
abbrev pub input_cover : ℕ → Option SignalNo → SignalNo → Cell
input_cover line None out = never line out
input_cover line (Some signal) out = passed line signal out

-- an enable has that of its clock in it, which is 1 where it is missing
abbrev pub enable_cover : ℕ → NetlistData → Option SignalNo → Option SignalNo → SignalNo → Cell
enable_cover line n None clock out = never line out
enable_cover line n (Some enable) None out = passed line enable out
enable_cover line n (Some enable) (Some clock) out =
    if is_one n clock then passed line enable out else (if is_one n enable then passed line clock out else product line enable clock out)

abbrev pub output_cover : ℕ → SignalNo → Option SignalNo → Option Cell
output_cover line hidden None = None
output_cover line hidden (Some signal) = Some (passed line hidden signal)

abbrev pub signal_at : RamData → ℕ → Option SignalNo
signal_at ram place = slice_index_or ram.signals place None

-- the cover at port k, whose signal is the hidden one
abbrev pub port_cover : NetlistData → RamData → ℕ → SignalNo → Option Cell
port_cover n ram k hidden =
    if nat_lt k 16 then output_cover ram.line hidden (signal_at ram (k + 60))
    else (if nat_lt k 72 then Some (input_cover ram.line (signal_at ram (k - 16)) hidden)
    else Some (enable_cover ram.line n (signal_at ram (k - 16)) (signal_at ram (k - 14)) hidden))

-- ---- the netlist
abbrev pub with_cover : NetlistData → Option Cell → NetlistData
with_cover n None = n
with_cover n (Some cell) = with_cell n cell

abbrev pub with_hidden_port : NetlistData → List ℕ → Way → NetlistData
with_hidden_port n name way = record { names = (named n name).names; ports = with_port n.ports (signal_of n name) way; cells = n.cells }

-- with port k of a RAM, which is named by the number of its line, a blank and its word
abbrev pub with_ram_port : NetlistData → RamData → ℕ → NetlistData
with_ram_port n ram k =
    with_cover (with_hidden_port n (hidden_name ram.line (port_word k)) (port_way k)) (port_cover n ram k (signal_of n (hidden_name ram.line (port_word k))))

-- with so many ports of a RAM, from port k on
unfoldable pub with_ports : NetlistData → RamData → ℕ → ℕ → NetlistData
with_ports n ram k zero = n
with_ports n ram k (suc count) = with_ports (with_ram_port n ram k) ram (k + 1) count

-- with all ports of a RAM
abbrev pub with_ram : NetlistData → RamData → NetlistData
with_ram n ram = with_ports n ram 0 74

-- with the ports of RAMs behind all others, or the line of the first whose hidden signals are too many
abbrev pub cut_says : NetlistData → List RamData → Result NetlistData BlifFault
cut_says n [] = Ok n
cut_says n (ram ∷ rams) = few_signals ram.line (with_ram n ram) >>= (λ m. cut_says m rams)

-- ---- the text
-- A netlist whose first ports are seen from outside; behind them stand those of its RAMs, which close it.
pub record ClosedNetlistData : Type 0 where
  pub netlist : NetlistData
  pub first : ℕ
  pub rams : List (Setup × Kept)

-- a netlist that no RAM closes
abbrev pub without_rams : NetlistData → ClosedNetlistData
without_rams n = record { netlist = n; first = length n.ports; rams = [] }

abbrev pub closed_by : NetlistData → List RamData → NetlistData → ClosedNetlistData
closed_by n rams m = record { netlist = m; first = length n.ports; rams = map ram_of rams }

abbrev pub closed_with : NetlistData → List RamData → Result ClosedNetlistData BlifFault
closed_with n rams = cut_says n rams >>= (λ m. Ok (closed_by n rams m))

-- the closed netlist of a text, or its first fault; that hidden signals are too many is found after all others
abbrev pub closed_netlist_of : List ℕ → Result ClosedNetlistData BlifFault
closed_netlist_of text = netlist_of text >>= (λ n. closed_with n (rams_of n text))
