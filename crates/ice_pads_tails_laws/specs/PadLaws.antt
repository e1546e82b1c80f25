-- What the ports of a netlist want of their pads where the ends of carry chains stand in their runs, and the pads that they get.
use Rattle.std.specs.Prelude.{◌≡◌, ℕ, ◌<◌, List, length, Ok}
use Rattle.ice_net.specs.Formed.{IsFormed}
use Rattle.ice_net.specs.NetlistData.{NetlistData}
use Rattle.ice_chip.specs.Database.{Parts}
use Rattle.ice_pcf.specs.declared.constraint.Constraint.{Constraint}
use Rattle.ice_cells.specs.Runs.{design_of}
use Rattle.ice_pads.specs.Wants.{wants}
use Rattle.ice_pads.specs.Assign.{IsGivenAlike, PadsData, assign_of}
use Rattle.ice_pads.specs.declared.closing.Closing.{Closing}
use Rattle.ice_carry_tails.specs.Ends.{tailed}

-- by the design of that netlist each port wants of its pad what it wants by the design of the netlist itself
abbrev pub TailedPadsAreWantedAlike : Type 0
TailedPadsAreWantedAlike = (n : NetlistData) → IsFormed n → length n.cells < 1073000000 → wants (design_of (tailed n)) ≡ wants (design_of n)

-- where the constraints give ports pads by the design of that netlist, they give the same pads by that of the netlist itself
abbrev pub TailedPadsAreGivenAlike : Type 0
TailedPadsAreGivenAlike = (n : NetlistData) (parts : Parts) (name : List ℕ) (constraints : List Constraint) (closing : Closing) (pads : PadsData) → IsFormed n → length n.cells < 1073000000
    → assign_of parts name constraints n closing (design_of (tailed n)) ≡ Ok pads → IsGivenAlike parts name constraints n closing pads
