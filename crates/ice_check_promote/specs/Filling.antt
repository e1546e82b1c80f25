-- How the netlist with promoted clocks is made: by tables, and name by name, port by port and cell by cell.
use Rattle.std.specs.Prelude.{◌≡◌, ℕ, ◌<◌, List, [], length, map, All, slice_index_or}
use Rattle.ice_base.specs.declared.number.SignalNo.{SignalNo}
use Rattle.ice_net.specs.declared.cell.Cell.{Cell}
use Rattle.ice_net.specs.Formed.{IsFormed, IsSingle}
use Rattle.ice_net.specs.NetlistData.{NetlistData}
use Rattle.ice_net_additions.specs.Adding.{HasRoomForNames}
use Rattle.ice_check.specs.Tables.{AreTimes}
use Rattle.ice_check_promote.specs.declared.counting.Counts.{Counts}
use Rattle.ice_check_promote.specs.declared.targets.Targets.{Targets}
use Rattle.ice_check_promote.specs.Promoted.{clock_of, settled_of, buffered, buffered_name, buffered_cell, with_buffers, passing_cell, with_passing}

-- how many flip-flops have each signal as their clock, and how many cells whose outputs need no buffer drive it
pub record AreCounts (n : NetlistData) (counts : Counts) : Type 0 where
  pub clocks : AreTimes (length n.names) (map clock_of n.cells) counts.clocks.items
  pub settled : AreTimes (length n.names) (map settled_of n.cells) counts.settled.items

-- the table tells what a reader of each of so many signals reads where the clocks have buffers
pub record AreReadAs (count : ℕ) (clocks : List ℕ) (table : List ℕ) : Type 0 where
  pub long : length table ≡ count
  pub reads : (s : ℕ) → s < count → slice_index_or table s 0 ≡ buffered count clocks s

abbrev pub AreTargets : Targets → Type 0
AreTargets targets = AreReadAs targets.count targets.clocks.items targets.table.items

-- ---- names
-- the names of the buffers' signals
abbrev pub buffer_names : NetlistData → List ℕ → List (List ℕ)
buffer_names n clocks = map (λ clock. buffered_name (slice_index_or n.names clock [])) clocks

-- ---- cells
-- a cell whose clock input reads the buffer: that of a flip-flop, and the input of a cover that passes an outer clock on
abbrev pub clocked_cell : ℕ → List ℕ → List SignalNo → Cell → Cell
clocked_cell next clocks outer cell = passing_cell next clocks outer (buffered_cell next clocks cell)

-- ---- the whole
-- the netlist with buffers for these clocks, which are read by the outer clocks, too
abbrev pub filled : NetlistData → List SignalNo → List ℕ → NetlistData
filled n outer clocks = with_passing (length n.names) clocks outer (with_buffers n clocks)

-- what is known of a netlist and of clocks that get buffers
pub record CanTakeBuffers (n : NetlistData) (outer : List SignalNo) (clocks : List ℕ) : Type 0 where
  pub formed : IsFormed n
  pub single : IsSingle n
  pub below : All (λ clock. clock < length n.names) clocks
  pub names : HasRoomForNames n (buffer_names n clocks)
  pub made : IsFormed (filled n outer clocks)
