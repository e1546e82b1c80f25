-- The laws of sound netlists, each as one sentence.
use Rattle.std.specs.Prelude.{◌≡◌, ◌≢◌, ℕ, ◌+◌, ◌<◌, Bool, false, Some, List, length, map}
use Rattle.ice_base_values.specs.System.{value, reading}
use Rattle.ice_base_values.specs.Order.{IsOrder}
use Rattle.ice_net.specs.NetlistData.{NetlistData}
use Rattle.ice_net.specs.Drivers.{driver_of}
use Rattle.ice_net.specs.Meaning.{reads, makes, depends_on, system_of, signal_value}
use Rattle.ice_check.specs.declared.fault.NetFault.{NetFault}
use Rattle.ice_check.specs.declared.fault.NetFault.TheVariants.{NoMemory}
use Rattle.ice_check.specs.Sound.{IsSound}
use Rattle.ice_check.specs.Refusals.{IsFaultOf}

-- with an order of evaluation of its signals each signal has a value at each moment
abbrev pub SignalsHaveValues : Type 0
SignalsHaveValues = (n : NetlistData) (order : List ℕ) → IsOrder (length n.names) (depends_on n) order
    → (levels kept : List Bool) (s : ℕ) → s < length n.names
    → value (system_of n levels kept) (length n.names + 1) s ≡ Some (signal_value n levels kept s)

-- then levels of which each is what the signal's driver makes of those that it reads are the values
abbrev pub SignalValuesAreUnique : Type 0
SignalValuesAreUnique = (n : NetlistData) (order : List ℕ) → IsOrder (length n.names) (depends_on n) order
    → (levels kept : List Bool) (v : ℕ → Bool)
    → ((s : ℕ) → s < length n.names → v s ≡ makes n levels kept (driver_of n s) (map (reading false v) (reads n (driver_of n s))))
    → (s : ℕ) → s < length n.names → signal_value n levels kept s ≡ v s

-- a netlist with a fault is not sound, so a check that answers the fault has not refused a sound one
abbrev pub FaultsAreNotSound : Type 0
FaultsAreNotSound = (n : NetlistData) (fault : NetFault) → fault ≢ NoMemory → IsFaultOf n fault → IsSound n → ⊥
