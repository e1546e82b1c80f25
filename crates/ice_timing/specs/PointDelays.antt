-- When a signal is at a point that depends on nothing, and how long it takes to get through any other. All in picoseconds.
use Rattle.std.specs.Prelude.{ℕ, ◌&&◌, Bool, List, is_some, if◌then◌else◌}
use Rattle.ice_chip.specs.Database.{Parts}
use Rattle.ice_chip.specs.Lookups.{gbufpin_of}
use Rattle.ice_bits.specs.Configuration.{Bits}
use Rattle.ice_decode.specs.declared.point.Point.{Point}
use Rattle.ice_decode.specs.declared.point.Point.TheVariants.{Wire, Carry}
use Rattle.ice_decode.specs.declared.driver.Driver.{Driver}
use Rattle.ice_decode.specs.declared.driver.Driver.TheVariants.{Nothing, By, Several}
use Rattle.ice_decode.specs.declared.role.Role.{Role}
use Rattle.ice_decode.specs.declared.role.Role.TheVariants.{Plain, Output, LookUp, CarryOut, PadInput, RamOutput, Global, CarryIn, ClockEnable}
use Rattle.ice_decode.specs.Cells.{has_flop}
use Rattle.ice_decode.specs.Direct.{takes_pad}
use Rattle.ice_decode.specs.Drivers.{driver, role_of}
use Rattle.ice_decode.specs.Reads.{depends_on}
use Rattle.ice_decode.specs.Pads.{has_input_register}
use Rattle.ice_timing_delays.specs.declared.delays.Delays.{Delays}
use Rattle.ice_timing.specs.Paths.{IsArrival, IsPathTo, length_of}

-- ---- where a path begins
-- a global has the level of a pad of the database
abbrev pub is_fed_by_pad : Parts → List (ℕ × ℕ × ℕ) → ℕ → Bool
is_fed_by_pad parts extras n = takes_pad parts extras n && is_some (gbufpin_of parts n)

-- at the input of a pad, at the output of a flip-flop or register, and elsewhere at what never changes
abbrev pub role_start : Parts → Bits → List (ℕ × ℕ × ℕ) → Delays → Role → ℕ
role_start parts bits extras d Plain = 0
role_start parts bits extras d (Output t i) = if has_flop parts bits t i then d.clock_to_q else 0
role_start parts bits extras d (LookUp t i) = 0
role_start parts bits extras d (CarryOut t i) = 0
role_start parts bits extras d (PadInput pad) = if has_input_register parts bits pad then d.clock_to_q else d.pad_in
role_start parts bits extras d (RamOutput pad) = d.clock_to_q
role_start parts bits extras d (Global n) = if is_fed_by_pad parts extras n then d.pad_in else 0
role_start parts bits extras d (CarryIn t) = 0
role_start parts bits extras d ClockEnable = 0

-- a wire that a row drives depends on the row's source
abbrev pub driven_start : Parts → Bits → List (ℕ × ℕ × ℕ) → Delays → Role → Driver → ℕ
driven_start parts bits extras d role Nothing = role_start parts bits extras d role
driven_start parts bits extras d role (By s) = 0
driven_start parts bits extras d role (Several first second) = 0

-- when a signal is at a point that depends on nothing
abbrev pub start_of : Parts → Bits → List (ℕ × ℕ × ℕ) → Delays → Point → ℕ
start_of parts bits extras d (Wire w) = driven_start parts bits extras d (role_of parts w.0) (driver parts bits w.0)
start_of parts bits extras d (Carry t i) = 0

-- ---- how it goes on
-- through the table of a cell, or into a global; the wire `cout` is the carry itself
abbrev pub role_delay : Delays → Role → ℕ
role_delay d Plain = 0
role_delay d (Output t i) = d.lut
role_delay d (LookUp t i) = d.lut
role_delay d (CarryOut t i) = 0
role_delay d (PadInput pad) = 0
role_delay d (RamOutput pad) = 0
role_delay d (Global n) = d.switch
role_delay d (CarryIn t) = 0
role_delay d ClockEnable = 0

-- through a row that is on
abbrev pub driven_delay : Delays → Role → Driver → ℕ
driven_delay d role Nothing = role_delay d role
driven_delay d role (By s) = d.switch
driven_delay d role (Several first second) = 0

-- how long a signal takes to a point from one of those on which it depends
abbrev pub delay_of : Parts → Bits → Delays → Point → ℕ
delay_of parts bits d (Wire w) = driven_delay d (role_of parts w.0) (driver parts bits w.0)
delay_of parts bits d (Carry t i) = d.carry

-- ---- paths of a configured chip
abbrev pub IsChipPathTo : Parts → Bits → List (ℕ × ℕ × ℕ) → List Point → Point → Type 0
IsChipPathTo parts bits extras path last = IsPathTo (depends_on parts bits extras) path last

abbrev pub path_length : Parts → Bits → List (ℕ × ℕ × ℕ) → Delays → List Point → ℕ
path_length parts bits extras d path = length_of (start_of parts bits extras d) (delay_of parts bits d) path

-- some path to the point is so long, and none is longer
abbrev pub IsArrivalAt : Parts → Bits → List (ℕ × ℕ × ℕ) → Delays → Point → ℕ → Type 0
IsArrivalAt parts bits extras d p arrival = IsArrival (depends_on parts bits extras) (start_of parts bits extras d) (delay_of parts bits d) p arrival
