-- What a reader of a netlist text keeps between its lines, and between the words of a gate.
use Rattle.std.specs.Prelude.{Bool, List, Option}
use Rattle.ice_base.specs.declared.number.SignalNo.{SignalNo}
use Rattle.ice_net.specs.NetlistData.{NetlistData}
use Rattle.ice_blif.specs.State.{LastCell}

-- the netlist without the cell that was made last, that cell, and whether a row may stand in the next line
pub record NetReading : Type 0 where
  pub netlist : NetlistData
  pub last : LastCell
  pub rows : Bool

-- the connections of a gate by the places of its inputs and then its outputs: which ports were named, their signals, and
-- whether one was named twice
pub record Connections : Type 0 where
  pub taken : List Bool
  pub signals : List (Option SignalNo)
  pub twice : Bool
