-- What the ports of a netlist with promoted clocks want of their pads, and the pads that they get.
use Rattle.std.specs.Prelude.{◌≡◌, ℕ, ◌<◌, List, length, Ok}
use Rattle.ice_base.specs.declared.number.SignalNo.{SignalNo}
use Rattle.ice_net.specs.Formed.{IsFormed}
use Rattle.ice_net.specs.NetlistData.{NetlistData}
use Rattle.ice_chip.specs.Database.{Parts}
use Rattle.ice_pcf.specs.declared.constraint.Constraint.{Constraint}
use Rattle.ice_cells.specs.Runs.{design_of}
use Rattle.ice_pads.specs.Globals.{globals}
use Rattle.ice_pads.specs.Wants.{wants}
use Rattle.ice_pads.specs.Assign.{IsGivenAlike, PadsData, assign_of}
use Rattle.ice_pads.specs.declared.closing.Closing.{Closing}
use Rattle.ice_check_promote.specs.Free.{free_beside}
use Rattle.ice_check_promote.specs.Promoted.{promoted}
use Rattle.ice_check_promote.specs.PromotionLaws.{most_cells_before}

-- by the design of the netlist with promoted clocks each port wants of its pad what it wants by the design of the netlist itself
abbrev pub PadsAreWantedAlike : Type 0
PadsAreWantedAlike = (n : NetlistData) (outer : List SignalNo) (free : ℕ) → IsFormed n → length n.cells < most_cells_before → wants (design_of (promoted n outer free)) ≡ wants (design_of n)

-- where clocks take the globals that the netlist leaves free, and the constraints give ports pads by the design of the netlist with promoted clocks, they
-- give the same pads by that of the netlist itself
abbrev pub PadsAreGivenAlike : Type 0
PadsAreGivenAlike = (n : NetlistData) (outer : List SignalNo) (free : ℕ) (parts : Parts) (name : List ℕ) (constraints : List Constraint) (closing : Closing) (pads : PadsData) → IsFormed n → length n.cells < most_cells_before
    → free ≡ free_beside (length (globals parts)) n → assign_of parts name constraints n closing (design_of (promoted n outer free)) ≡ Ok pads → IsGivenAlike parts name constraints n closing pads
