-- Bits without a fault, said of each wire, row, function, extra bit, point and pad, and not in the order in which faults are looked for.
use Rattle.std.specs.Prelude.{◌≡◌, ℕ, ◌<◌, true, false, List}
use Rattle.ice_base.specs.declared.number.RowNo.{RowNo}
use Rattle.ice_base.specs.declared.number.TileAt.{TileAt}
use Rattle.ice_base_values.specs.Order.{Has}
use Rattle.ice_chip.specs.Database.{Parts, FunctionRow}
use Rattle.ice_chip.specs.declared.rows.TileLine.{TileLine}
use Rattle.ice_chip.specs.declared.rows.Pad.{Pad}
use Rattle.ice_bits.specs.Configuration.{Bits}
use Rattle.ice_decode.specs.declared.driver.Driver.TheVariants.{Several}
use Rattle.ice_decode.specs.declared.driver.Switch.{Switch}
use Rattle.ice_decode.specs.Direct.{is_padin}
use Rattle.ice_decode.specs.Drivers.{driver, switches_on}
use Rattle.ice_decode.specs.Faults.{is_memory_wire, is_set_in, HasNoLoop, has_wrong_type}
use Rattle.ice_decode.specs.Pads.{pads}

pub record HaveNoFault (parts : Parts) (bits : Bits) (extras : List (ℕ × ℕ × ℕ)) : Type 0 where
  -- no two rows into one wire are on
  pub uncontended : (w : ℕ) (first second : RowNo) → w < parts.wires → driver parts bits w ≡ Several first second → ⊥
  -- no row is on whose source is the output of a memory
  pub sources : (s : Switch) → Has (switches_on bits parts.groups) s → is_memory_wire parts s.source.0 ≡ false
  -- no bit of a foreign function is set where it counts
  pub functions : (tile : TileAt × TileLine) (f : FunctionRow) → Has parts.tiles tile → Has parts.functions f → is_set_in parts bits tile f ≡ false
  -- each extra bit is some global's
  pub extras_known : (extra : ℕ × ℕ × ℕ) → Has extras extra → is_padin parts extra ≡ true
  -- no points depend on one another in a circle
  pub loopless : HasNoLoop parts bits extras
  -- no pad is of a wrong type
  pub types : (pad : Pad) → Has (pads parts) pad → has_wrong_type parts bits pad ≡ false
