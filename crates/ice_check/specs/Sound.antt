-- Sound netlists, and what is kept with one.
use Rattle.std.specs.Prelude.{◌≡◌, ℕ, List, length, map, Option, None}
use Rattle.ice_base_values.specs.Order.{IsOrder}
use Rattle.ice_net.specs.declared.driver.SignalDriver.{SignalDriver}
use Rattle.ice_net.specs.NetlistData.{NetlistData}
use Rattle.ice_net.specs.Drivers.{pin_of}
use Rattle.ice_net.specs.Meaning.{depends_on}
use Rattle.ice_check.specs.Tables.{ArePlaces, AreDrivers}
use Rattle.ice_check.specs.Faults.{undriven, driven_twice, pad_shared, pin_type_out, pin_not_port, inout_bare}
use Rattle.ice_check.specs.Loops.{HasNoLoop, cells_before}

-- a netlist without any of the seven kinds of faults, which has a meaning
pub record IsSound (n : NetlistData) : Type 0 where
  pub driven : undriven n ≡ None
  pub driven_once : driven_twice n ≡ None
  pub loopless : HasNoLoop n
  pub pads_apart : pad_shared n ≡ None
  pub pin_types : pin_type_out n ≡ None
  pub pins_at_ports : pin_not_port n ≡ None
  pub inouts_buffered : inout_bare n ≡ None

-- none of the three kinds of faults of signals, which come first
pub record AreSignalsSound (n : NetlistData) : Type 0 where
  pub driven : undriven n ≡ None
  pub driven_once : driven_twice n ≡ None
  pub loopless : HasNoLoop n

-- none of the four kinds of faults of pads
pub record ArePadsSound (n : NetlistData) : Type 0 where
  pub pads_apart : pad_shared n ≡ None
  pub pin_types : pin_type_out n ≡ None
  pub pins_at_ports : pin_not_port n ≡ None
  pub inouts_buffered : inout_bare n ≡ None

-- a table of the place of the first SB_IO at each signal
abbrev pub AreBuffers : NetlistData → List (Option ℕ) → Type 0
AreBuffers n table = ArePlaces (length n.names) (map pin_of n.cells) table

-- a sound netlist with an order of its cells, one of its signals, and what drives and what buffers each signal
pub record IsChecked (n : NetlistData) (order signal_order : List ℕ) (drivers : List SignalDriver) (buffers : List (Option ℕ)) : Type 0 where
  pub sound : IsSound n
  pub cells : IsOrder (length n.cells) (cells_before n) order
  pub signals : IsOrder (length n.names) (depends_on n) signal_order
  pub driven_by : AreDrivers n drivers
  pub buffered_by : AreBuffers n buffers
