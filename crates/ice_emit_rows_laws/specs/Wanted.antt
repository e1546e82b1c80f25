-- Rows that are wanted, and what they set.
use Rattle.std.specs.Prelude.{◌≡◌, ℕ, ◌+◌, ◌||◌, true, false, Option, None, Some, List, slice_get}
use Rattle.std.specs.List.{list_any}
use Rattle.ice_base.specs.declared.bit.BitAt.{BitAt}
use Rattle.ice_base_values.specs.Order.{At, Has}
use Rattle.ice_chip.specs.Database.{Parts, SwitchGroup, SwitchRow}
use Rattle.ice_chip.specs.Listings.{rows_of}
use Rattle.ice_bits.specs.Configuration.{Bits}
use Rattle.ice_decode.specs.declared.driver.Switch.{Switch}
use Rattle.ice_decode.specs.declared.driver.Driver.TheVariants.{Nothing, By}
use Rattle.ice_decode.specs.Drivers.{driver, switches_on}
use Rattle.ice_bits_rows.specs.Sound.{sets, is_sound}

-- the switch is that row of the group
pub record IsRowOf (parts : Parts) (s : Switch) (g : SwitchGroup) (r : SwitchRow) : Type 0 where
  pub in_groups : Has parts.groups g
  pub place : ℕ
  pub in_rows : At g.rows place r
  pub number : s.row.0 ≡ g.first + place
  pub tile : s.tile ≡ g.tile
  pub source : s.source.0 ≡ r.source
  pub target : s.target.0 ≡ g.wire

abbrev pub sets_of : Option (SwitchGroup × SwitchRow) → Bits
sets_of None t b = false
sets_of (Some x) t b = sets x.0 x.1 t b

-- the bits that a switch sets
abbrev pub sets_switch : Parts → Switch → Bits
sets_switch parts s t b = sets_of (slice_get (rows_of parts.groups) s.row.0) t b

-- the switches set these bits, and others are set beside them
abbrev pub set_bits : Parts → List Switch → Bits → Bits
set_bits parts wanted more t b = list_any (λ s. sets_switch parts s t b) wanted || more t b

-- sound rows into different wires
pub record AreWanted (parts : Parts) (wanted : List Switch) : Type 0 where
  pub rows : (s : Switch) → Has wanted s → (g : SwitchGroup) × (r : SwitchRow) × IsRowOf parts s g r × (is_sound parts g s.row.0 r ≡ true)
  pub apart : (s u : Switch) → Has wanted s → Has wanted u → s.target.0 ≡ u.target.0 → s ≡ u

-- no bit of a group is among these
pub record AreNoGroups (parts : Parts) (more : Bits) : Type 0 where
  pub each : (g : SwitchGroup) (b : BitAt) → Has parts.groups g → Has g.bits b → more g.tile b ≡ false

-- what drives each wire
pub record IsWired (parts : Parts) (bits : Bits) (wanted : List Switch) : Type 0 where
  pub entered : (s : Switch) → Has wanted s → driver parts bits s.target.0 ≡ By s
  pub bare : (w : ℕ) → ((s : Switch) → Has wanted s → s.target.0 ≡ w → ⊥) → driver parts bits w ≡ Nothing
  pub on : (s : Switch) → Has (switches_on bits parts.groups) s → Has wanted s
