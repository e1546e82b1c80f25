-- How many globals a netlist leaves free.
use Rattle.std.specs.Prelude.{ℕ, ◌-◌, Bool, true, false}
use Rattle.std.specs.List.{count_by}
use Rattle.ice_net.specs.declared.cell.Cell.{Cell}
use Rattle.ice_net.specs.declared.kind.CellKind.{CellKind}
use Rattle.ice_net.specs.declared.kind.CellKind.TheVariants.{Lut, Cover, Carry, Flop, PadCell, Global}
use Rattle.ice_net.specs.NetlistData.{NetlistData}

abbrev pub is_buffer : CellKind → Bool
is_buffer (Lut table) = false
is_buffer (Cover table width) = false
is_buffer Carry = false
is_buffer (Flop falling enable reset) = false
is_buffer (PadCell pin_type pullup) = false
is_buffer Global = true

-- each global buffer of the netlist takes one of so many globals, and the others are free
abbrev pub free_beside : ℕ → NetlistData → ℕ
free_beside globals n = globals - count_by (λ (cell : Cell). is_buffer cell.kind) n.cells
