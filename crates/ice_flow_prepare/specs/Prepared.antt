-- What is placed and routed of a netlist: its clocks take the globals of a chip that are free, also for what closes it, and then the ends of
-- its carry chains stand in their runs.
use Rattle.std.specs.Prelude.{◌≢◌, ◌⊎◌, ℕ, ◌<◌, List, length, All}
use Rattle.ice_base.specs.Lines.{IsWord}
use Rattle.ice_base.specs.declared.number.SignalNo.{SignalNo}
use Rattle.ice_net.specs.NetlistData.{NetlistData}
use Rattle.ice_chip.specs.Database.{Parts}
use Rattle.ice_flow_globals.specs.Clocks.{promoted_on}
use Rattle.ice_check_promote.specs.Promotable.{last_byte}
use Rattle.ice_carry_tails.specs.Ends.{tailed}

-- with these outer clocks
abbrev pub prepared_on : Parts → NetlistData → List SignalNo → NetlistData
prepared_on parts n outer = tailed (promoted_on parts n outer)

-- the cells of a netlist leave room for what is added
abbrev pub most_cells : ℕ
most_cells = 1072000000

-- a word, or a name that ends otherwise than in `b` (98) and `l` (108)
abbrev pub IsPreparableName : List ℕ → Type 0
IsPreparableName name = IsWord name ⊎ ((last_byte 0 name ≢ 98) × (last_byte 0 name ≢ 108))

-- what is asked of the netlist: its names are none that are added, as those of a text are, and there is room for what is added
pub record CanBePrepared (n : NetlistData) : Type 0 where
  pub names : All IsPreparableName n.names
  pub room : length n.cells < most_cells
