-- The roots of wires, found one after another.
use Rattle.std.specs.Prelude.{◌≡◌, ℕ, ◌<◌, Bool, true, false, Some, List, [], ◌∷◌, map, slice_set, slice_index_or, if◌then◌else◌, codes}
use Rattle.ice_base_values.specs.System.{reading}
use Rattle.ice_chip.specs.Database.{Parts}
use Rattle.ice_chip.specs.Lookups.{gbufpin_of}
use Rattle.ice_chip.specs.declared.rows.Pad.{Pad}
use Rattle.ice_bits.specs.Configuration.{Bits}
use Rattle.ice_bits.specs.Settings.{set_at}
use Rattle.ice_decode.specs.declared.driver.Driver.{Driver}
use Rattle.ice_decode.specs.declared.driver.Driver.TheVariants.{Nothing, By, Several}
use Rattle.ice_decode.specs.declared.point.Point.{Point}
use Rattle.ice_decode.specs.declared.point.Point.TheVariants.{Wire, Carry}
use Rattle.ice_decode.specs.declared.role.Role.{Role}
use Rattle.ice_decode.specs.declared.role.Role.TheVariants.{Plain, Output, LookUp, CarryOut, PadInput, RamOutput, Global, CarryIn, ClockEnable}
use Rattle.ice_decode.specs.Cells.{has_flop}
use Rattle.ice_decode.specs.Direct.{takes_pad}
use Rattle.ice_decode.specs.Drivers.{driver, role_of}
use Rattle.ice_decode.specs.Meaning.{passes}
use Rattle.ice_decode.specs.Reads.{wire_point, global_feed}
use Rattle.ice_back_laws.specs.declared.root.LevelRoot.{LevelRoot}
use Rattle.ice_back_laws.specs.declared.root.LevelRoot.TheVariants.{Fixed, Register}
use Rattle.ice_back_laws.specs.Roots.{table_root, carry_root, pad_root, fed_root, first_root, root_of}

-- the root of a point, where `roots` has those of wires by their numbers
abbrev pub root_in : Parts → Bits → List LevelRoot → Point → LevelRoot
root_in parts bits roots (Wire w) = slice_index_or roots w.0 (Fixed false)
root_in parts bits roots (Carry t i) = carry_root parts bits t i

-- the root of a global, by whether it has the level of a pad
abbrev pub either_root : Parts → Bits → List Pad → List LevelRoot → ℕ → Bool → LevelRoot
either_root parts bits bonded roots n takes = if takes then fed_root parts bits bonded (gbufpin_of parts n) else reading (Fixed false) (root_in parts bits roots) (global_feed parts n)

-- the root of a wire without a row that is on, by its role
abbrev pub own_root : Parts → Bits → List (ℕ × ℕ × ℕ) → List Pad → List LevelRoot → Role → LevelRoot
own_root parts bits extras bonded roots Plain = Fixed false
own_root parts bits extras bonded roots (Output t i) = if has_flop parts bits t i then Register t i else table_root parts bits t i
own_root parts bits extras bonded roots (LookUp t i) = table_root parts bits t i
own_root parts bits extras bonded roots (CarryOut t i) = carry_root parts bits t i
own_root parts bits extras bonded roots (PadInput pad) = pad_root parts bits bonded pad
own_root parts bits extras bonded roots (RamOutput pad) = Fixed false
own_root parts bits extras bonded roots (Global n) = either_root parts bits bonded roots n (takes_pad parts extras n)
own_root parts bits extras bonded roots (CarryIn t) = Fixed (set_at parts bits t (codes "CarryInSet") 0)
own_root parts bits extras bonded roots ClockEnable = Fixed true

-- and of any wire, by its role and by what drives it
abbrev pub own_driven : Parts → Bits → List (ℕ × ℕ × ℕ) → List Pad → List LevelRoot → Role → Driver → LevelRoot
own_driven parts bits extras bonded roots r Nothing = own_root parts bits extras bonded roots r
own_driven parts bits extras bonded roots r (By s) = first_root (map (reading (Fixed false) (root_in parts bits roots)) (if passes parts bits s then Some (Wire s.source) ∷ [] else []))
own_driven parts bits extras bonded roots r (Several first second) = Fixed false

-- the root of a wire, where `roots` has that of what passes its level on to it
abbrev pub wire_root : Parts → Bits → List (ℕ × ℕ × ℕ) → List Pad → List LevelRoot → ℕ → LevelRoot
wire_root parts bits extras bonded roots w = own_driven parts bits extras bonded roots (role_of parts w) (driver parts bits w)

-- the roots with those of the wires among these points, one after another
abbrev pub filled : Parts → Bits → List (ℕ × ℕ × ℕ) → List Pad → List Point → List LevelRoot → List LevelRoot
filled parts bits extras bonded [] roots = roots
filled parts bits extras bonded (Wire w ∷ points) roots = filled parts bits extras bonded points (slice_set roots w.0 (wire_root parts bits extras bonded roots w.0))
filled parts bits extras bonded (Carry t i ∷ points) roots = filled parts bits extras bonded points roots

-- the roots of all wires of the chip
abbrev pub AreRoots : Parts → Bits → List (ℕ × ℕ × ℕ) → List Pad → List LevelRoot → Type 0
AreRoots parts bits extras bonded roots = (w : ℕ) → w < parts.wires → slice_index_or roots w (Fixed false) ≡ root_of parts bits extras bonded (wire_point w)
