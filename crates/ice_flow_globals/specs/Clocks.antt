-- The netlist whose clocks take the free globals of a chip.
use Rattle.std.specs.Prelude.{ℕ, List, length}
use Rattle.ice_base.specs.declared.number.SignalNo.{SignalNo}
use Rattle.ice_net.specs.NetlistData.{NetlistData}
use Rattle.ice_chip.specs.Database.{Parts}
use Rattle.ice_pads.specs.Globals.{globals}
use Rattle.ice_check_promote.specs.Free.{free_beside}
use Rattle.ice_check_promote.specs.Promoted.{promoted}

-- the globals that can be taken, less one for each global buffer of the netlist
abbrev pub free_globals : Parts → NetlistData → ℕ
free_globals parts n = free_beside (length (globals parts)) n

-- with these outer clocks
abbrev pub promoted_on : Parts → NetlistData → List SignalNo → NetlistData
promoted_on parts n outer = promoted n outer (free_globals parts n)
