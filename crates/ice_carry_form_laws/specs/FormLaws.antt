-- The laws of packed designs, each as one sentence.
use Rattle.std.specs.Prelude.{◌≡◌, ℕ, Bool, List}
use Rattle.ice_net.specs.Formed as netlist
use Rattle.ice_net.specs.Meaning.{shows}
use Rattle.ice_net.specs.NetlistData.{NetlistData}
use Rattle.ice_check.specs.Sound.{IsSound}
use Rattle.ice_cells.specs.Formed.{IsFormed}
use Rattle.ice_cells.specs.Meaning as design
use Rattle.ice_cells.specs.Meaning.{HasValues}
use Rattle.ice_cells.specs.Packed.{packed}
use Rattle.ice_cells.specs.Runs.{design_of}
use Rattle.ice_carry_chains.specs.Before.{IsBeforeRuns}
use Rattle.ice_carry_laws.specs.FormedBefore.{IsFormedBefore}
use Rattle.ice_carry_laws.specs.RunLaws.{ReadsWithin}
use Rattle.ice_pack_laws.specs.PackLaws.{IsSoundInOrder}

-- it says once what comes into the carry of each cell that has one, and reads no carry that is not there
abbrev pub PackedAreBeforeRuns : Type 0
PackedAreBeforeRuns = (n : NetlistData) → HasValues (packed n) → IsBeforeRuns (packed n)

-- it reads no pad, no cell and no global buffer that is not there
abbrev pub PackedReadWithin : Type 0
PackedReadWithin = (n : NetlistData) → ReadsWithin (packed n)

-- its pads stand in the order of ports, are of the three types and tell whether they are read, and a flip-flop that is neither set nor reset has nothing there
abbrev pub PackedAreFormed : Type 0
PackedAreFormed = (n : NetlistData) → netlist.IsFormed n → IsSound n → IsFormedBefore (packed n)

-- ---- the design of a netlist, its runs made
-- it keeps to what every design with runs keeps to
abbrev pub DesignsAreFormed : Type 0
DesignsAreFormed = (n : NetlistData) (order : List ℕ) → IsSoundInOrder n order → IsFormed (design_of n)

-- each of its nodes has a value, whatever the levels and whatever is kept
abbrev pub DesignsHaveValues : Type 0
DesignsHaveValues = (n : NetlistData) (order : List ℕ) → IsSoundInOrder n order → HasValues (design_of n)

-- it shows, step by step, what the netlist shows, for each list of levels
abbrev pub DesignsShowTheSame : Type 0
DesignsShowTheSame = (n : NetlistData) (order : List ℕ) → IsSoundInOrder n order → (levels : List (List Bool)) → design.shows (design_of n) levels ≡ shows n levels
