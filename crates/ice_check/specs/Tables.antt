-- Tables by the number of a signal.
use Rattle.std.specs.Prelude.{◌≡◌, ℕ, ◌+◌, ◌<◌, Bool, true, false, List, [], ◌∷◌, length, Option, Some, None, slice_index_or}
use Rattle.ice_base.specs.declared.number.SignalNo.{SignalNo}
use Rattle.ice_net.specs.declared.driver.SignalDriver.{SignalDriver}
use Rattle.ice_net.specs.declared.driver.SignalDriver.TheVariants.{Nothing}
use Rattle.ice_net.specs.NetlistData.{NetlistData}
use Rattle.ice_net.specs.Drivers.{is_signal, place_of, driver_from, driver_of}

-- the first place so far, after one more place at which the signal stands or doesn't
abbrev pub settled : Bool → Option ℕ → ℕ → Option ℕ
settled false before place = before
settled true None place = Some place
settled true (Some first) place = Some first

-- 1 for a signal that stands here, else 0
abbrev pub once : Bool → ℕ
once true = 1
once false = 0

-- how often a signal stands in a list
abbrev pub times : ℕ → List (Option SignalNo) → ℕ
times s [] = 0
times s (signal ∷ signals) = once (is_signal s signal) + times s signals

-- a table of the first place of each signal in a list
pub record ArePlaces (count : ℕ) (list : List (Option SignalNo)) (table : List (Option ℕ)) : Type 0 where
  pub long : length table ≡ count
  pub places : (s : ℕ) → s < count → slice_index_or table s None ≡ place_of s list

-- a table of how often each signal stands in a list
pub record AreTimes (count : ℕ) (list : List (Option SignalNo)) (table : List ℕ) : Type 0 where
  pub long : length table ≡ count
  pub times_are : (s : ℕ) → s < count → slice_index_or table s 0 ≡ times s list

-- a table of what drives each signal of a netlist
pub record AreDrivers (n : NetlistData) (table : List SignalDriver) : Type 0 where
  pub long : length table ≡ length n.names
  pub drivers : (s : ℕ) → s < length n.names → slice_index_or table s Nothing ≡ driver_of n s

-- the drivers of so many signals, by a place for the pad and a place for the output of each
pub record AreJoined (count : ℕ) (pads outputs : List (Option ℕ)) (table : List SignalDriver) : Type 0 where
  pub long : length table ≡ count
  pub joined : (s : ℕ) → s < count → slice_index_or table s Nothing ≡ driver_from (slice_index_or pads s None) (slice_index_or outputs s None)
