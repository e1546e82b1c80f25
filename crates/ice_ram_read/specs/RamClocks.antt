-- The signals that the RAMs of a closed netlist have as their clocks.
use Rattle.std.specs.Prelude.{ℕ, ◌+◌, ◌*◌, List, [], ◌∷◌, ◌++◌, length, slice_get}
use Rattle.std.specs.List.{flat_map, range_with_len}
use Rattle.std.specs.Option.{option_map_or}
use Rattle.ice_base.specs.declared.number.SignalNo.{SignalNo}
use Rattle.ice_net.specs.declared.port.Port.{Port}
use Rattle.ice_ram_read.specs.ClosedNetlists.{ClosedNetlistData}

-- the signal of the port at a place, where there is one
abbrev pub signal_there : List Port → ℕ → List SignalNo
signal_there ports place = option_map_or (λ (port : Port). port.signal ∷ []) (slice_get ports place) []

-- those of RCLK and WCLK of the RAM whose ports begin at a place
abbrev pub clocks_there : List Port → ℕ → List SignalNo
clocks_there ports place = signal_there ports (place + 70) ++ signal_there ports (place + 71)

-- those of so many RAMs, the ports of the first of which begin at a place
abbrev pub clocks_from : List Port → ℕ → ℕ → List SignalNo
clocks_from ports place rams = flat_map (λ ram. clocks_there ports (place + 74 * ram)) (range_with_len 0 rams)

-- those of all RAMs
abbrev pub ram_clocks : ClosedNetlistData → List SignalNo
ram_clocks c = clocks_from c.netlist.ports c.first (length c.rams)
