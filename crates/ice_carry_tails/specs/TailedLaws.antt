-- The laws of netlists in which the ends of carry chains stand in their runs.
use Rattle.std.specs.Prelude.{◌≡◌, ◌<◌, Bool, List, length}
use Rattle.ice_net.specs.Formed.{IsFormed}
use Rattle.ice_net.specs.Meaning.{shows}
use Rattle.ice_net.specs.NetlistData.{NetlistData}
use Rattle.ice_check.specs.Sound.{IsSound}
use Rattle.ice_carry_tails.specs.Ends.{tailed}

-- such a netlist is well formed
abbrev pub TailedAreFormed : Type 0
TailedAreFormed = (n : NetlistData) → IsFormed n → length n.cells < 1073000000 → IsFormed (tailed n)

-- it is sound where the netlist is
abbrev pub TailedAreSound : Type 0
TailedAreSound = (n : NetlistData) → IsFormed n → IsSound n → IsSound (tailed n)

-- its ports drive, step by step, what they did before, for each list of levels
abbrev pub TailedShowTheSame : Type 0
TailedShowTheSame = (n : NetlistData) → IsFormed n → (levels : List (List Bool)) → shows (tailed n) levels ≡ shows n levels

-- its ports are the same
abbrev pub TailedKeepPorts : Type 0
TailedKeepPorts = (n : NetlistData) → (tailed n).ports ≡ n.ports
