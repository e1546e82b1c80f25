-- The roots of all points of a chip have their signals among those of its netlist, heard or not.
use Rattle.std.proofs.Common.{◌≡◌, ◌⊎◌, ℕ, ◌<◌, Bool, true, false, Option, None, Some, List, [], ◌∷◌, length, map, inl, inr, refl, sym, subst, if◌then◌else◌}
use Rattle.std.specs.Prelude.{slice_index_or}
use Rattle.ice_base_values.specs.System.{reading}
use Rattle.ice_base_values.specs.Order.{Has}
use Rattle.ice_chip.specs.Database.{Parts}
use Rattle.ice_chip.specs.IsRead.{IsRead}
use Rattle.ice_chip.specs.declared.rows.Pad.{Pad}
use Rattle.ice_chip_laws.specs.Names.{HasNames}
use Rattle.ice_bits.specs.Configuration.{Bits}
use Rattle.ice_decode.specs.declared.driver.Driver.{Driver}
use Rattle.ice_decode.specs.declared.driver.Driver.TheVariants.{Nothing, By, Several}
use Rattle.ice_decode.specs.declared.point.Point.{Point}
use Rattle.ice_decode.specs.declared.point.Point.TheVariants.{Wire, Carry}
use Rattle.ice_decode.specs.declared.role.Role.{Role}
use Rattle.ice_decode.specs.declared.role.Role.TheVariants.{Plain, Output, LookUp, CarryOut, PadInput, RamOutput, Global, CarryIn, ClockEnable}
use Rattle.ice_decode.specs.Cells.{logic_tiles}
use Rattle.ice_decode.specs.Drivers.{driver, role_of}
use Rattle.ice_decode.specs.Meaning.{passes}
use Rattle.ice_decode.specs.Pads.{is_enabled, has_input_register}
use Rattle.ice_decode.specs.Points.{points}
use Rattle.ice_decode.specs.Refusals.{IsFaultless}
use Rattle.ice_decode.proofs.PointPlaces.{StandsAs, wire_at, point_cases}
use Rattle.ice_decode.proofs.Switches.{driver_between}
use Rattle.ice_back_laws.specs.Roots.{LevelRoot, Fixed, Input, Taken, Given, Kept, Level, Table, Register, Sum, pad_number, bonded_root, enabled_root, pad_root, driven_passes, driven_root, root_of, IsThere, IsNumbered}
use Rattle.ice_back_laws.proofs.Heard.{IsHeardAs, row_heard}
use Rattle.ice_back_laws.proofs.Inputs.{IsUsed, point_good}
use Rattle.ice_back_laws.proofs.PadNumbers.{number_within}
use Rattle.ice_back_laws.proofs.Ranks.{Ranks, ranked, ranks_fall, root_there}
use Rattle.ice_back_laws.proofs.RootLevels.{root_made}

-- a root that is there has its signal
pub there_numbered : (parts : Parts) (bits : Bits) (extras : List (ℕ × ℕ × ℕ)) (bonded : List Pad) (r : LevelRoot) → IsThere parts bits extras bonded r → IsNumbered parts bonded r
there_numbered parts bits extras bonded (Fixed level) there = tt
there_numbered parts bits extras bonded (Input k) there = there.0
there_numbered parts bits extras bonded (Taken k) there = there.0
there_numbered parts bits extras bonded (Given k) there = there.0
there_numbered parts bits extras bonded (Kept k) there = there.0
there_numbered parts bits extras bonded (Level k) there = there.0
there_numbered parts bits extras bonded (Table t i) there = there.0
there_numbered parts bits extras bonded (Register t i) there = there.0
there_numbered parts bits extras bonded (Sum t i) there = there.0

-- and so has what a pad gives
pad_numbered : (parts : Parts) (bits : Bits) (bonded : List Pad) (pad : Pad) → IsNumbered parts bonded (pad_root parts bits bonded pad)
pad_numbered parts bits bonded pad = by (has_input_register parts bits pad)
  where
    at : (sort : ℕ → LevelRoot) → ((k : ℕ) → k < length bonded → IsNumbered parts bonded (sort k)) → (o : Option ℕ) → pad_number pad bonded ≡ o → IsNumbered parts bonded (bonded_root sort o)
    at sort each None e = tt
    at sort each (Some k) e = each k (number_within pad bonded k e)

    enabled : (sort : ℕ → LevelRoot) → ((k : ℕ) → k < length bonded → IsNumbered parts bonded (sort k)) → (b : Bool)
        → IsNumbered parts bonded (if b then bonded_root sort (pad_number pad bonded) else Fixed false)
    enabled sort each true = at sort each (pad_number pad bonded) refl
    enabled sort each false = tt

    by : (b : Bool) → IsNumbered parts bonded (if b then enabled_root parts bits bonded Taken pad else enabled_root parts bits bonded Input pad)
    by true = enabled Taken (λ k lt. lt) (is_enabled parts bits pad)
    by false = enabled Input (λ k lt. lt) (is_enabled parts bits pad)

module _ (parts : Parts) (bits : Bits) (extras : List (ℕ × ℕ × ℕ)) (read : IsRead parts) (names : HasNames parts) (faultless : IsFaultless parts bits extras) (bonded : List Pad) where
  abbrev root : Point → LevelRoot
  root = root_of parts bits extras bonded

  used_numbered : (p : Point) → IsUsed parts read bits names p → IsNumbered parts bonded (root p)
  used_numbered p used = there_numbered parts bits extras bonded (root p) (point_good parts read bits names extras faultless bonded p used)

  -- only the wire of a pad may be unheard
  heard_or_pad : (r : Role) → IsHeardAs parts bits names r ⊎ ((pad : Pad) × (r ≡ PadInput pad))
  heard_or_pad Plain = inl tt
  heard_or_pad (Output t i) = inl tt
  heard_or_pad (LookUp t i) = inl tt
  heard_or_pad (CarryOut t i) = inl tt
  heard_or_pad (PadInput pad) = inr (pad, refl)
  heard_or_pad (RamOutput pad) = inl tt
  heard_or_pad (Global n) = inl tt
  heard_or_pad (CarryIn t) = inl tt
  heard_or_pad ClockEnable = inl tt

  -- the root of such a wire is its pad's, or that of the source of a row
  pad_wire_numbered : (w : ℕ) (pad : Pad) → w < parts.wires → (d : Driver) → driver parts bits w ≡ d
      → IsNumbered parts bonded (driven_root parts bits extras bonded (PadInput pad) d (map (reading (Fixed false) root) (driven_passes parts bits extras (PadInput pad) d)))
  pad_wire_numbered w pad lt Nothing e = pad_numbered parts bits bonded pad
  pad_wire_numbered w pad lt (By s) e = by (passes parts bits s)
    where
      source : IsNumbered parts bonded (root (Wire s.source))
      source =
          used_numbered (Wire s.source) (record {
            there = (s.source.0, wire_at parts.wires (logic_tiles parts) s.source.0 (let between = driver_between parts bits w s read e in between.source));
            heard = row_heard parts bits names w s lt e;
          })

      by : (b : Bool) → IsNumbered parts bonded (slice_index_or (map (reading (Fixed false) root) (if b then Some (Wire s.source) ∷ [] else [])) 0 (Fixed false))
      by true = source
      by false = tt
  pad_wire_numbered w pad lt (Several first second) e = tt

  pub numbered : (p : Point) → Has (points parts) p → IsNumbered parts bonded (root p)
  numbered (Carry t i) has = used_numbered (Carry t i) (record { there = has; heard = tt })
  numbered (Wire w) has = by (heard_or_pad (role_of parts w.0))
    where
      within : (n : ℕ) → StandsAs parts.wires (logic_tiles parts) n (Wire w) → w.0 < parts.wires
      within n stands = stands.1

      lt : w.0 < parts.wires
      lt = within has.0 (point_cases parts.wires (logic_tiles parts) has.0 (Wire w) has.1)

      by : IsHeardAs parts bits names (role_of parts w.0) ⊎ ((pad : Pad) × (role_of parts w.0 ≡ PadInput pad)) → IsNumbered parts bonded (root (Wire w))
      by (inl heard) = used_numbered (Wire w) (record { there = has; heard = heard })
      by (inr (pad, e)) =
          subst (IsNumbered parts bonded)
          (sym (root_made parts bits extras (Ranks parts bits extras read names faultless) (ranks_fall parts bits extras read names faultless) bonded (root_there parts bits extras read names faultless bonded) _ (Wire w)
          (ranked parts bits extras read names faultless (Wire w) has)))
          (subst (λ r. IsNumbered parts bonded (driven_root parts bits extras bonded r (driver parts bits w.0) (map (reading (Fixed false) root) (driven_passes parts bits extras r (driver parts bits w.0))))) (sym e)
          (pad_wire_numbered w.0 pad lt (driver parts bits w.0) refl))
