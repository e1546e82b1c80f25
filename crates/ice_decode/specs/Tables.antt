-- Tables by the numbers of wires and of globals.
use Rattle.std.specs.Prelude.{◌≡◌, ℕ, ◌==◌, ◌<◌, Bool, false, Option, List, map, find, length, option_map, slice_index_or}
use Rattle.std.specs.List.{list_any, range_with_len}
use Rattle.ice_chip.specs.Database.{Parts}
use Rattle.ice_bits.specs.Configuration.{Bits}
use Rattle.ice_decode.specs.declared.driver.Switch.{Switch}
use Rattle.ice_decode.specs.declared.driver.Driver.{Driver}
use Rattle.ice_decode.specs.declared.driver.Driver.TheVariants.{Nothing, By, Several}
use Rattle.ice_decode.specs.Drivers.{into, driver_among}
use Rattle.ice_decode.specs.ForeignSources.{is_foreign_wire}
use Rattle.ice_decode.specs.FirstFaults.{contended_by, first_of}
use Rattle.ice_decode.specs.Direct.{takes_pad}

-- a row leads from a wire of so many to another
pub record IsBetween (wires : ℕ) (s : Switch) : Type 0 where
  pub source : s.source.0 < wires
  pub target : s.target.0 < wires

-- a row that drives a wire leads from one of so many wires
abbrev pub ComesFrom : ℕ → Driver → Type 0
ComesFrom wires Nothing = Unit {0}
ComesFrom wires (By s) = s.source.0 < wires
ComesFrom wires (Several first second) = Unit {0}

-- what drives a wire, with one row into it more that is on
abbrev pub joined : Driver → Switch → Driver
joined Nothing s = By s
joined (By first) s = Several first.row s.row
joined (Several first second) s = Several first second

-- what drives each of so many wires, by the rows that are on
abbrev pub drivers_of : ℕ → List Switch → List Driver
drivers_of wires switches = map (λ w. driver_among (into w switches)) (range_with_len 0 wires)

-- one of these rows reads the wire
abbrev pub reads_wire : List Switch → ℕ → Bool
reads_wire switches w = list_any (λ (s : Switch). s.source.0 == w) switches

-- a table of whether one of these rows reads each wire
pub record AreSources (switches : List Switch) (sources : List Bool) : Type 0 where
  pub each : (w : ℕ) → slice_index_or sources w false ≡ reads_wire switches w

-- the least contended wire of a table of what drives each wire, with its first two rows that are on
abbrev pub contended_among : List Driver → Option (ℕ × ℕ × ℕ)
contended_among drivers = first_of (λ w. contended_by w (slice_index_or drivers w Nothing)) 0 (length drivers)

-- a table of whether each wire is an output of a memory that is no block RAM in use
abbrev pub foreign_wires : Parts → Bits → List Bool
foreign_wires parts bits = map (is_foreign_wire parts bits) (range_with_len 0 parts.wires)

-- the source of the first of these rows whose source is such an output
abbrev pub foreign_source_of : Parts → Bits → List Switch → Option ℕ
foreign_source_of parts bits switches = option_map (λ (s : Switch). s.source.0) (find (λ (s : Switch). is_foreign_wire parts bits s.source.0) switches)

-- a table of whether each global has the level of a pad
abbrev pub AreDirect : Parts → List (ℕ × ℕ × ℕ) → List Bool → Type 0
AreDirect parts extras direct = (n : ℕ) → slice_index_or direct n false ≡ takes_pad parts extras n
