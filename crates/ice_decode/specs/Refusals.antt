-- Which fault bits are refused for, and what is kept of those that aren't.
use Rattle.std.specs.Prelude.{◌≡◌, ℕ, None, Some, Bool, List, map}
use Rattle.std.specs.List.{range_with_len}
use Rattle.ice_base.specs.declared.number.TileAt.{TileAt}
use Rattle.ice_chip.specs.Database.{Parts}
use Rattle.ice_chip.specs.declared.rows.Pad.{Pad}
use Rattle.ice_bits.specs.Configuration.{Bits, Configuration, bits_of}
use Rattle.ice_decode.specs.declared.point.Point.{Point}
use Rattle.ice_decode.specs.declared.driver.Driver.{Driver}
use Rattle.ice_decode.specs.declared.fault.DecodeFault.{DecodeFault}
use Rattle.ice_decode.specs.declared.fault.DecodeFault.TheVariants.{Contention, ForeignSource, ForeignFunction, ForeignExtra, ChipLoop, PinType, NoMemory}
use Rattle.ice_decode.specs.Drivers.{driver}
use Rattle.ice_decode.specs.Pads.{pin_type}
use Rattle.ice_decode.specs.Tables.{AreDirect}
use Rattle.ice_decode.specs.Faults.{HasNoLoop}
use Rattle.ice_decode.specs.FirstFaults.{contention, foreign_source, foreign_function, wrong_pad, foreign_extra}
use Rattle.ice_decode.specs.Loops.{IsLoop, IsOrderOf}

-- ---- no fault
-- the faults of the first four kinds are not there: each extra bit is some global's
pub record IsOfChip (parts : Parts) (bits : Bits) (extras : List (ℕ × ℕ × ℕ)) : Type 0 where
  pub uncontended : contention parts bits ≡ None
  pub sources : foreign_source parts bits ≡ None
  pub functions : foreign_function parts bits ≡ None
  pub extras_known : foreign_extra parts extras ≡ None

-- none of the six kinds is there, so the bits have a circuit
pub record IsFaultless (parts : Parts) (bits : Bits) (extras : List (ℕ × ℕ × ℕ)) : Type 0 where
  pub of_chip : IsOfChip parts bits extras
  pub loopless : HasNoLoop parts bits extras
  pub types : wrong_pad parts bits ≡ None

-- ---- the first fault
pub record IsForeignSource (parts : Parts) (bits : Bits) (wire : ℕ) : Type 0 where
  pub uncontended : contention parts bits ≡ None
  pub first : foreign_source parts bits ≡ Some wire

pub record IsForeignFunction (parts : Parts) (bits : Bits) (tile : TileAt) (line : ℕ) : Type 0 where
  pub uncontended : contention parts bits ≡ None
  pub sources : foreign_source parts bits ≡ None
  pub first : foreign_function parts bits ≡ Some (tile, line)

pub record IsForeignExtra (parts : Parts) (bits : Bits) (extras : List (ℕ × ℕ × ℕ)) (extra : ℕ × ℕ × ℕ) : Type 0 where
  pub uncontended : contention parts bits ≡ None
  pub sources : foreign_source parts bits ≡ None
  pub functions : foreign_function parts bits ≡ None
  pub first : foreign_extra parts extras ≡ Some extra

-- any loop may be told
pub record IsChipLoop (parts : Parts) (bits : Bits) (extras : List (ℕ × ℕ × ℕ)) (wires : List ℕ) : Type 0 where
  pub of_chip : IsOfChip parts bits extras
  pub is_loop : IsLoop parts bits extras wires

pub record IsPinType (parts : Parts) (bits : Bits) (extras : List (ℕ × ℕ × ℕ)) (pad : Pad) (value : ℕ) : Type 0 where
  pub of_chip : IsOfChip parts bits extras
  pub loopless : HasNoLoop parts bits extras
  pub first : wrong_pad parts bits ≡ Some pad
  pub value_is : value ≡ pin_type parts bits pad

-- The fault that bits are refused for: that of the first kind of which they have one. Want of memory may come at any time.
abbrev pub IsFaultOf : Parts → Bits → List (ℕ × ℕ × ℕ) → DecodeFault → Type 0
IsFaultOf parts bits extras (Contention wire rows) = contention parts bits ≡ Some (wire.0, rows.0.0, rows.1.0)
IsFaultOf parts bits extras (ForeignSource wire) = IsForeignSource parts bits wire.0
IsFaultOf parts bits extras (ForeignFunction tile line) = IsForeignFunction parts bits tile line
IsFaultOf parts bits extras (ForeignExtra extra) = IsForeignExtra parts bits extras extra
IsFaultOf parts bits extras (ChipLoop wires) = IsChipLoop parts bits extras wires
IsFaultOf parts bits extras (PinType pad value) = IsPinType parts bits extras pad value
IsFaultOf parts bits extras NoMemory = Unit {0}

-- ---- a circuit
-- a table of what drives each wire
abbrev pub AreDrivers : Parts → Bits → List Driver → Type 0
AreDrivers parts bits drivers = drivers ≡ map (driver parts bits) (range_with_len 0 parts.wires)

-- what is kept of bits without a fault: the bits, what drives each wire, which globals have the level of a pad, and an order of evaluation
pub record CircuitData : Type 0 where
  pub configuration : Configuration
  pub drivers : List Driver
  pub direct : List Bool
  pub order : List Point

-- the circuit is the one that the bits are on the chip
pub record IsCircuitOf (parts : Parts) (k : Configuration) (circuit : CircuitData) : Type 0 where
  pub same : circuit.configuration ≡ k
  pub faultless : IsFaultless parts (bits_of k) k.extras
  pub driven_by : AreDrivers parts (bits_of k) circuit.drivers
  pub fed_by_pads : AreDirect parts k.extras circuit.direct
  pub ordered : IsOrderOf parts (bits_of k) k.extras circuit.order
