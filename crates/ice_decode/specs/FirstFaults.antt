-- Which fault of each sort is found first.
use Rattle.std.specs.Prelude.{ℕ, ◌+◌, Option, None, Some, List, [], ◌∷◌, find, option_map, not}
use Rattle.std.proofs.Common.{zero, suc}
use Rattle.ice_base.specs.declared.number.TileAt.{TileAt}
use Rattle.ice_chip.specs.Database.{Parts}
use Rattle.ice_chip.specs.declared.rows.Pad.{Pad}
use Rattle.ice_chip.specs.declared.rows.TileLine.{TileLine}
use Rattle.ice_bits.specs.Configuration.{Bits}
use Rattle.ice_decode.specs.declared.driver.Switch.{Switch}
use Rattle.ice_decode.specs.declared.driver.Driver.{Driver}
use Rattle.ice_decode.specs.declared.driver.Driver.TheVariants.{Nothing, By, Several}
use Rattle.ice_decode.specs.Drivers.{switches_on, driver}
use Rattle.ice_decode.specs.Pads.{pads}
use Rattle.ice_decode.specs.Faults.{is_memory_wire, is_set_in, has_wrong_type}
use Rattle.ice_decode.specs.ForeignSources.{is_foreign_wire}
use Rattle.ice_decode.specs.Direct.{is_padin}

abbrev pub or_else : {A : Type 0} → Option A → Option A → Option A
or_else None other = other
or_else (Some x) other = Some x

-- the first of so many numbers from k on for which there is something, with what there is
abbrev pub first_of : {A : Type 0} → (ℕ → Option A) → ℕ → ℕ → Option A
first_of f k zero = None
first_of f k (suc more) = or_else (f k) (first_of f (k + 1) more)

-- ---- contention
-- the first two rows into a wire, with the wire, where two are on
abbrev pub contended_by : ℕ → Driver → Option (ℕ × ℕ × ℕ)
contended_by w Nothing = None
contended_by w (By s) = None
contended_by w (Several first second) = Some (w, first.0, second.0)

-- the least contended wire, with its first two rows that are on
abbrev pub contention : Parts → Bits → Option (ℕ × ℕ × ℕ)
contention parts bits = first_of (λ w. contended_by w (driver parts bits w)) 0 parts.wires

-- ---- the others
-- the source of the first row that is on whose source is the output of a memory that is no block RAM in use
abbrev pub foreign_source : Parts → Bits → Option ℕ
foreign_source parts bits = option_map (λ (s : Switch). s.source.0) (find (λ (s : Switch). is_foreign_wire parts bits s.source.0) (switches_on bits parts.groups))

-- the source of the first row that is on whose source is the output of a memory, in use or not
abbrev pub memory_source : Parts → Bits → Option ℕ
memory_source parts bits = option_map (λ (s : Switch). s.source.0) (find (λ (s : Switch). is_memory_wire parts s.source.0) (switches_on bits parts.groups))

-- the tile and the function's line
abbrev pub foreign_in : Parts → Bits → TileAt × TileLine → Option (TileAt × ℕ)
foreign_in parts bits tile = option_map (λ f. (tile.0, f.line)) (find (is_set_in parts bits tile) parts.functions)

abbrev pub first_foreign : Parts → Bits → List (TileAt × TileLine) → Option (TileAt × ℕ)
first_foreign parts bits [] = None
first_foreign parts bits (tile ∷ tiles) = or_else (foreign_in parts bits tile) (first_foreign parts bits tiles)

-- the first tile in which such a bit is set, and the line of the first function with one there
abbrev pub foreign_function : Parts → Bits → Option (TileAt × ℕ)
foreign_function parts bits = first_foreign parts bits parts.tiles

-- the first pad of a wrong type
abbrev pub wrong_pad : Parts → Bits → Option Pad
wrong_pad parts bits = find (has_wrong_type parts bits) (pads parts)

-- the first of these extra bits that is no global's
abbrev pub foreign_extra : Parts → List (ℕ × ℕ × ℕ) → Option (ℕ × ℕ × ℕ)
foreign_extra parts extras = find (λ e. not (is_padin parts e)) extras
