-- The laws of promoted clocks.
use Rattle.std.specs.Prelude.{◌≡◌, ℕ, ◌<◌, Bool, List, length}
use Rattle.ice_base.specs.declared.number.SignalNo.{SignalNo}
use Rattle.ice_net.specs.Formed.{IsFormed}
use Rattle.ice_net.specs.Meaning.{shows}
use Rattle.ice_net.specs.NetlistData.{NetlistData}
use Rattle.ice_check.specs.Sound.{IsSound}
use Rattle.ice_check_promote.specs.Promoted.{promoted}

-- the cells of a netlist leave room for one buffer for each signal of a netlist that is placed
abbrev pub most_cells_before : ℕ
most_cells_before = 1073000000

-- a netlist with promoted clocks is well formed
abbrev pub PromotedAreFormed : Type 0
PromotedAreFormed = (n : NetlistData) (outer : List SignalNo) (free : ℕ) → IsFormed n → length n.cells < most_cells_before → IsFormed (promoted n outer free)

-- a sound netlist stays sound
abbrev pub PromotedAreSound : Type 0
PromotedAreSound = (n : NetlistData) (outer : List SignalNo) (free : ℕ) → IsFormed n → IsSound n → IsSound (promoted n outer free)

-- its ports drive, step by step, what they did before, for each list of levels
abbrev pub PromotedShowTheSame : Type 0
PromotedShowTheSame = (n : NetlistData) (outer : List SignalNo) (free : ℕ) → IsFormed n → (levels : List (List Bool)) → shows (promoted n outer free) levels ≡ shows n levels

-- its ports are the same
abbrev pub PromotedKeepPorts : Type 0
PromotedKeepPorts = (n : NetlistData) (outer : List SignalNo) (free : ℕ) → (promoted n outer free).ports ≡ n.ports
