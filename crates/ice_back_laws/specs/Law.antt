-- What bits show, their netlist shows.
use Rattle.std.specs.Prelude.{◌≡◌, ℕ, ◌<◌, ◌&&◌, Bool, false, List, length, None, is_some, slice_index_or}
use Rattle.ice_chip.specs.Database.{Parts, PackageRows}
use Rattle.ice_chip.specs.IsRead.{IsChip}
use Rattle.ice_bits.specs.Configuration.{Bits}
use Rattle.ice_net.specs.Meaning as net
use Rattle.ice_decode.specs.Meaning as chip
use Rattle.ice_decode.specs.Refusals.{IsFaultless}
use Rattle.ice_base_values.specs.Order.{Has}
use Rattle.ice_chip.specs.declared.rows.Pad.{Pad}
use Rattle.ice_decode.specs.declared.point.Point.{Point}
use Rattle.ice_decode.specs.declared.point.Point.TheVariants.{Carry}
use Rattle.ice_decode.specs.Loops.{IsOrderOf}
use Rattle.ice_decode.specs.Pads.{is_enabled, kept_at, input_kept, output_kept}
use Rattle.ice_decode.specs.Points.{points}
use Rattle.ice_net.specs.NetlistData.{NetlistData}
use Rattle.ice_check.specs.Faults.{undriven, pin_not_port, inout_bare}
use Rattle.ice_check.specs.Loops.{HasNoLoop}
use Rattle.ice_check.specs.Sound.{IsSound}
use Rattle.ice_back_laws.specs.Back.{back_netlist}
use Rattle.ice_back_laws.specs.Roots.{LevelRoot, Fixed, Input, Taken, Given, Kept, Level, Table, Register, Sum, pad_number, pad_at, root_of}

-- For every list of levels the netlist drives at its ports, which are the pads of the package in order, what the chip drives there, where
-- the bits have no fault and the package is one of the chip's.
abbrev pub NetlistShowsWhatBitsShow : Type 0
NetlistShowsWhatBitsShow = (parts : Parts) (bits : Bits) (extras : List (ℕ × ℕ × ℕ)) (package_rows : PackageRows) → IsChip parts → IsFaultless parts bits extras → Has parts.packages package_rows
    → (levels : List (List Bool)) → net.shows (back_netlist parts bits extras package_rows) levels ≡ chip.bits_show parts bits extras package_rows.pads package_rows.pads levels

-- No signals of the netlist depend on one another in a circle, so each has a value and no default stands in for one.
abbrev pub NetlistHasNoLoop : Type 0
NetlistHasNoLoop = (parts : Parts) (bits : Bits) (extras : List (ℕ × ℕ × ℕ)) (package_rows : PackageRows) → IsChip parts → IsFaultless parts bits extras → Has parts.packages package_rows
    → HasNoLoop (back_netlist parts bits extras package_rows)

-- each input in use has a driver, each SB_IO is at a port, and each port has an SB_IO
pub record IsConnected (n : NetlistData) : Type 0 where
  pub driven : undriven n ≡ None
  pub pins_at_ports : pin_not_port n ≡ None
  pub inouts_buffered : inout_bare n ≡ None

-- the netlist is connected
abbrev pub NetlistIsConnected : Type 0
NetlistIsConnected = (parts : Parts) (bits : Bits) (extras : List (ℕ × ℕ × ℕ)) (package_rows : PackageRows) → IsChip parts → IsFaultless parts bits extras → Has parts.packages package_rows
    → IsConnected (back_netlist parts bits extras package_rows)

-- and it has none of the faults of netlists, so that it has a meaning
abbrev pub NetlistIsSound : Type 0
NetlistIsSound = (parts : Parts) (bits : Bits) (extras : List (ℕ × ℕ × ℕ)) (package_rows : PackageRows) → IsChip parts → IsFaultless parts bits extras → Has parts.packages package_rows
    → IsSound (back_netlist parts bits extras package_rows)

-- the level of a root at a moment, by the levels of points
abbrev pub root_level : Parts → Bits → List Pad → (Point → Bool) → List Bool → List Bool → LevelRoot → Bool
root_level parts bits bonded v levels kept (Fixed level) = level
root_level parts bits bonded v levels kept (Input k) = slice_index_or levels k false
root_level parts bits bonded v levels kept (Taken k) = input_kept parts kept (pad_at bonded k)
root_level parts bits bonded v levels kept (Given k) = slice_index_or levels k false
root_level parts bits bonded v levels kept (Kept k) = output_kept parts kept (pad_at bonded k)
root_level parts bits bonded v levels kept (Level k) = slice_index_or levels k false
root_level parts bits bonded v levels kept (Table t i) = chip.table_level parts bits v t i
root_level parts bits bonded v levels kept (Register t i) = kept_at parts kept t i
root_level parts bits bonded v levels kept (Sum t i) = v (Carry t i)

-- the pad has a level in a package that its input buffer passes on
abbrev pub has_level : Parts → Bits → List Pad → Pad → Bool
has_level parts bits bonded pad = is_enabled parts bits pad && is_some (pad_number pad bonded)

-- a register that takes what a pad without such a level gives keeps 0, as it does from the start on; and the pads are those of IO tiles,
-- so that none of them is a pin of a block RAM
pub record AreQuiet (parts : Parts) (bits : Bits) (bonded : List Pad) (kept : List Bool) : Type 0 where
  pub quiet : (pad : Pad) → pad.pio < 2 → has_level parts bits bonded pad ≡ false → input_kept parts kept pad ≡ false
  pub pads : (k : ℕ) → k < length bonded → (pad_at bonded k).pio < 2

-- at each moment of a run the level of a point is that of its root
abbrev pub PointsHaveTheirRootsLevels : Type 0
PointsHaveTheirRootsLevels = (parts : Parts) (bits : Bits) (extras : List (ℕ × ℕ × ℕ)) (order : List Point) → IsOrderOf parts bits extras order → (bonded : List Pad) (levels kept : List Bool)
    → AreQuiet parts bits bonded kept → (p : Point) → Has (points parts) p
    → chip.point_level parts bits extras bonded levels kept p
    ≡ root_level parts bits bonded (chip.point_level parts bits extras bonded levels kept) levels kept (root_of parts bits extras bonded p)
