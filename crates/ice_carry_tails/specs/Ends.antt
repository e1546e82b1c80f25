-- Which look-up tables get a carry of their own: those at which a chain of carries ends, where the carry would share their logic cell.
use Rattle.std.specs.Prelude.{ℕ, ◌+◌, ◌-◌, min, ◌==◌, ◌&&◌, ◌||◌, not, Bool, true, false, List, [], ◌∷◌, ◌++◌, length, map, take, Option, Some, None, if◌then◌else◌, is_none, slice_get, slice_index_or}
use Rattle.std.specs.List.{filter, flat_map, range_with_len}
use Rattle.std.specs.Option.{option_map_or}
use Rattle.ice_base.specs.declared.number.SignalNo.{SignalNo}
use Rattle.ice_net.specs.declared.cell.Cell.{Cell}
use Rattle.ice_net.specs.declared.driver.SignalDriver.{SignalDriver}
use Rattle.ice_net.specs.declared.driver.SignalDriver.TheVariants.{Nothing, Pad, Output}
use Rattle.ice_net.specs.declared.kind.CellKind.{CellKind}
use Rattle.ice_net.specs.declared.kind.CellKind.TheVariants as kind
use Rattle.ice_net.specs.declared.port.Port.{Port}
use Rattle.ice_net.specs.Drivers.{driver_of}
use Rattle.ice_net.specs.NetlistData.{NetlistData}
use Rattle.ice_net.specs.Limits.{most_signals}
use Rattle.ice_check.specs.Tables.{times}
use Rattle.ice_cells.specs.Homes.{carriers_of}
use Rattle.ice_cells.specs.Origins.{origins}
use Rattle.ice_cells.specs.Packed.{facts, has_level, ins_at}
use Rattle.ice_cells.specs.declared.origin.Origin.{Origin}
use Rattle.ice_cells.specs.Pairs.{luts_of}
use Rattle.ice_cells.specs.Tables.{is_place}
use Rattle.ice_pack_share.specs.Behind.{roles_behind}
use Rattle.ice_carry_tails.specs.Tails.{with_tails}
use Rattle.ice_carry_tails.specs.TailLaws.{is_lut}

-- ---- the ends of chains
-- all that is read: the inputs, cell by cell, and the signals of the ports
abbrev pub ins_of : Cell → List (Option SignalNo)
ins_of cell = cell.ins

abbrev pub port_signal : Port → Option SignalNo
port_signal port = Some port.signal

abbrev pub all_read : NetlistData → List (Option SignalNo)
all_read n = flat_map ins_of n.cells ++ map port_signal n.ports

abbrev pub is_carry : CellKind → Bool
is_carry (kind.Lut table) = false
is_carry (kind.Cover table width) = false
is_carry kind.Carry = true
is_carry (kind.Flop falling enable reset) = false
is_carry (kind.PadCell pin_type pullup) = false
is_carry kind.Global = false

-- what drives a signal is a carry
abbrev pub is_carry_out : NetlistData → SignalDriver → Bool
is_carry_out n Nothing = false
is_carry_out n (Pad k) = false
is_carry_out n (Output i) = option_map_or (λ (cell : Cell). is_carry cell.kind) (slice_get n.cells i) false

-- a carry's output that is read once in all
abbrev pub is_last_carry : NetlistData → Option SignalNo → Bool
is_last_carry n None = false
is_last_carry n (Some signal) = times signal.0 (all_read n) == 1 && is_carry_out n (driver_of n signal.0)

-- a look-up table whose last input alone reads a carry
abbrev pub ends_chain : NetlistData → Cell → Bool
ends_chain n cell = is_lut cell.kind && is_last_carry n (slice_index_or cell.ins 3 None)

abbrev pub is_end : NetlistData → ℕ → Bool
is_end n i = option_map_or (ends_chain n) (slice_get n.cells i) false

abbrev pub chain_ends : NetlistData → List ℕ
chain_ends n = filter (is_end n) (range_with_len 0 (length n.cells))

-- ---- where their carries would share
-- no carry shares the logic cell of the look-up table yet, by the carries that share each
abbrev pub is_free_by : List (Option ℕ) → ℕ → Bool
is_free_by carriers i = is_none (slice_index_or carriers i None)

-- its carry would read the constant 1, for which a cell would have to be made
abbrev pub reads_one_by : List Origin → List (Option SignalNo) → Bool
reads_one_by os ins = has_level os true (slice_index_or ins 1 None) || has_level os true (slice_index_or ins 2 None)

abbrev pub can_share : List (Option ℕ) → List Origin → List Cell → ℕ → Bool
can_share carriers os cells i = is_free_by carriers i && not (reads_one_by os (ins_at cells i))

abbrev pub is_free : NetlistData → ℕ → Bool
is_free n i = can_share (carriers_of (facts n)) (origins n) n.cells i

abbrev pub free_ends : NetlistData → List ℕ
free_ends n = filter (is_free n) (chain_ends n)

-- Of these tables those that the carry which is added for them would share, where carries are added for all of them. The first has that place
-- among the numbers of carries.
abbrev pub own : List (Option ℕ) → ℕ → List ℕ → List ℕ
own luts place [] = []
own luts place (i ∷ tables) = (if is_place i (slice_index_or luts place None) then i ∷ [] else []) ++ own luts (place + 1) tables

abbrev pub own_ends : NetlistData → List ℕ → List ℕ
own_ends n tables = own (luts_of (roles_behind (origins n) n.cells tables)) (length n.cells) tables

-- ---- the whole

-- how many carries may be added: there are names for them, and room for their signals
abbrev pub most_tails : NetlistData → ℕ
most_tails n = min (length n.names) (most_signals - length n.names)

abbrev pub tables_of : NetlistData → List ℕ
tables_of n = take (most_tails n) (own_ends n (free_ends n))

-- The netlist in which the ends of carry chains stand in their runs. Nothing is changed; what is added is read by nothing.
abbrev pub tailed : NetlistData → NetlistData
tailed n = with_tails n (tables_of n)
