-- A configured chip while it is compiled, seen at pads, which have levels too.
use Rattle.std.specs.Prelude.{◌≡◌, ℕ, Bool, Option, None, Some, List, [], ◌∷◌, ◌++◌, length}
use Rattle.std.specs.Map.{lookup}
use Rattle.std.proofs.Common.{suc}
use Rattle.ice_chip.specs.Database.{Parts, same_tile, same_pad}
use Rattle.ice_chip.specs.IsRead.{IsChip}
use Rattle.ice_chip.specs.declared.rows.Pad.{Pad}
use Rattle.ice_bits.specs.Configuration.{Configuration}
use Rattle.ice_decode.specs.Cells.{cells, logic_tiles}
use Rattle.ice_decode.specs.Pads.{io_tiles, pads, stores}
use Rattle.ice_decode.specs.Refusals.{IsCircuitOf}
use Rattle.ice_sim.specs.declared.configured.ConfiguredChip.TheInside.{Inside}
use Rattle.ice_sim.specs.declared.stores.Stores.{Stores}

-- the chip, its bits, and the pads
pub record ConfiguredData : Type 0 where
  pub parts : Parts
  pub configuration : Configuration
  pub bonded : List Pad

abbrev pub configured_view : Inside → ConfiguredData
configured_view s = record { parts = s.chip.now; configuration = s.circuit.now.configuration; bonded = s.pads.now }

-- ---- places of tiles and of pads
-- the entries with the place of a key, if it has none yet
abbrev pub put_place : {K : Type 0} → K → ℕ → List (K × ℕ) → Option ℕ → List (K × ℕ)
put_place key place entries None = entries ++ (key, place) ∷ []
put_place key place entries (Some old) = entries

abbrev pub with_place : {K : Type 0} → (K → K → Bool) → K → ℕ → List (K × ℕ) → List (K × ℕ)
with_place same key place entries = put_place key place entries (lookup (same key) entries)

-- the entries with the places of these keys, of which the first is at place k
abbrev pub with_places : {K : Type 0} → (K → K → Bool) → ℕ → List K → List (K × ℕ) → List (K × ℕ)
with_places same k [] entries = entries
with_places same k (key ∷ keys) entries = with_places same (suc k) keys (with_place same key k entries)

pub record IsConfiguredChip (s : Inside) : Type 0 where
  pub chip : IsChip s.chip.now
  pub circuit : IsCircuitOf s.chip.now s.circuit.now.configuration s.circuit.now
  pub wires : s.wires ≡ s.chip.now.wires
  pub logic_places : s.logic_places.entries ≡ with_places same_tile 0 (logic_tiles s.chip.now) []
  pub io_places : s.io_places.entries ≡ with_places same_tile 0 (io_tiles s.chip.now) []
  pub pad_places : s.pad_places.entries ≡ with_places same_pad 0 s.pads.now []
  pub cells : s.cells ≡ length (cells s.chip.now)
  pub stores : s.stores ≡ length (stores s.chip.now)

-- ---- what keeps levels
-- the logic cells of a chip and its pads
pub record AreStoresOf (parts : Parts) (s : Stores) : Type 0 where
  pub cells : s.cells.items ≡ cells parts
  pub pads : s.pads.items ≡ pads parts
