-- Netlists taken apart that have at most 65,534 signals, hidden ones too.
use Rattle.std.specs.Prelude.{ℕ, List, [], ◌∷◌, length, nat_lt, Result, Ok, Err, if◌then◌else◌}
use Rattle.ice_net.specs.declared.cell.Cell.{Cell}
use Rattle.ice_net.specs.NetlistData.{NetlistData}
use Rattle.ice_blif.specs.declared.fault.BlifFault.{BlifFault}
use Rattle.ice_blif.specs.declared.fault.BlifFault.TheVariants.{TooMany}
use Rattle.ice_blif.specs.Cells.{◌>>=◌}
use Rattle.ice_blif.specs.Registers.{with_apart, without_cells}

-- the netlist, or the line that makes one signal too many
abbrev pub few_signals : ℕ → NetlistData → Result NetlistData BlifFault
few_signals line n = if nat_lt 65534 (length n.names) then Err (TooMany line 65534) else Ok n

-- a netlist with those of all these cells, or the line of the first whose hidden signal is one too many
abbrev pub apart_says : NetlistData → List Cell → Result NetlistData BlifFault
apart_says n [] = Ok n
apart_says n (cell ∷ cells) = few_signals cell.line (with_apart n cell) >>= (λ m. apart_says m cells)

abbrev pub taken_apart_says : NetlistData → Result NetlistData BlifFault
taken_apart_says raw = apart_says (without_cells raw) raw.cells
