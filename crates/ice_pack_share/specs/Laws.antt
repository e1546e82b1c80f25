-- The laws of cells that share a logic cell, each as one sentence.
use Rattle.std.specs.Prelude.{◌≡◌, ℕ, ◌<◌, Bool, true, false, List, length, map, Option, Some, None, slice_get, slice_index_or}
use Rattle.std.proofs.Common.{◌⊎◌}
use Rattle.ice_base_values.specs.System.{reading}
use Rattle.ice_base_values.specs.Order.{At, IsOrder}
use Rattle.ice_net.specs.declared.cell.Cell.{Cell}
use Rattle.ice_net.specs.declared.driver.SignalDriver.TheVariants.{Output}
use Rattle.ice_net.specs.declared.port.Port.{Port}
use Rattle.ice_net.specs.Formed.{IsFormed}
use Rattle.ice_net.specs.Meaning.{depends_on, makes, reads, signal_value}
use Rattle.ice_net.specs.NetlistData.{NetlistData}
use Rattle.ice_cells.specs.declared.origin.Origin.{Origin}
use Rattle.ice_cells.specs.declared.origin.Origin.TheVariants.{Fixed, Pad, Made}
use Rattle.ice_cells.specs.declared.share.Pair.{Pair}
use Rattle.ice_cells.specs.declared.share.Role.TheVariants.{Gives, Takes}
use Rattle.ice_cells.specs.Origins.{origin}
use Rattle.ice_cells.specs.Pairs.{role, roles_of, luts_of}
use Rattle.ice_cells.specs.Uses.{readings}
use Rattle.ice_cells.specs.Homes.{facts_of, part, taker, is_kept, anchor, carriers_of, first_member, openers, home}

-- ---- levels
-- the level of an origin, by the levels of the ports and what the cells keep: what a cell's output makes of the values of what it reads
abbrev pub origin_level : NetlistData → List Bool → List Bool → Origin → Bool
origin_level n levels kept (Fixed level) = level
origin_level n levels kept (Pad k) = slice_index_or levels k false
origin_level n levels kept (Made i) = makes n levels kept (Output i) (map (reading false (signal_value n levels kept)) (reads n (Output i)))

-- a signal has the level of its origin, so that constants may be folded and aliases left out
abbrev pub SignalsHaveTheLevelsOfTheirOrigins : Type 0
SignalsHaveTheLevelsOfTheirOrigins = (n : NetlistData) → IsFormed n → (order : List ℕ) → IsOrder (length n.names) (depends_on n) order
    → (levels kept : List Bool) (s : ℕ) → s < length n.names → signal_value n levels kept s ≡ origin_level n levels kept (origin n s)

-- ---- shared cells
-- the look-up table whose logic cell a carry shares
abbrev pub lut_at : List Origin → List Cell → ℕ → Option ℕ
lut_at os cells c = slice_index_or (luts_of (roles_of os cells)) c None

-- A flip-flop takes a look-up table only where nothing else reads it: there is one reading of it, by the flip-flop as the level that it takes.
abbrev pub TakersReadTheirTablesAlone : Type 0
TakersReadTheirTablesAlone = (os : List Origin) (cells : List Cell) (bare : List Port) (k f : ℕ) → taker (facts_of os cells bare) k ≡ Some f
    → (i : ℕ) × At (readings os cells bare) i (Made k, Some f) × ((j : ℕ) (reader : Option ℕ) → At (readings os cells bare) j (Made k, reader) → j ≡ i)

-- a carry shares a look-up table only where both read the same at their two inputs, the first at the first
abbrev pub CarriesReadAsTheirTables : Type 0
CarriesReadAsTheirTables = (os : List Origin) (cells : List Cell) (c a : ℕ) → lut_at os cells c ≡ Some a
    → (pair : Pair) × (role (roles_of os cells) c ≡ Takes pair) × (role (roles_of os cells) a ≡ Gives pair)

-- no two carries share a look-up table
abbrev pub NoTwoCarriesShareATable : Type 0
NoTwoCarriesShareATable = (os : List Origin) (cells : List Cell) (c d a : ℕ) → lut_at os cells c ≡ Some a → lut_at os cells d ≡ Some a → c ≡ d

-- The logic cell that a cell goes to is there, and is opened by the first of the cells that go there.
abbrev pub CellsGoToOpenedCells : Type 0
CellsGoToOpenedCells = (os : List Origin) (cells : List Cell) (bare : List Port) (j : ℕ) → is_kept (part (facts_of os cells bare) j) ≡ true
    → slice_get (openers (facts_of os cells bare)) (home (facts_of os cells bare) j) ≡ Some (first_member (facts_of os cells bare) j)

-- cells that go to one logic cell go by one cell
abbrev pub CellsOfAHomeGoByOneCell : Type 0
CellsOfAHomeGoByOneCell = (os : List Origin) (cells : List Cell) (bare : List Port) (j k : ℕ)
    → is_kept (part (facts_of os cells bare) j) ≡ true → is_kept (part (facts_of os cells bare) k) ≡ true
    → home (facts_of os cells bare) j ≡ home (facts_of os cells bare) k → anchor (facts_of os cells bare) j ≡ anchor (facts_of os cells bare) k

-- What goes by a cell is that cell, the flip-flop that takes it, or the carry that shares it: so a logic cell has at most one of each.
abbrev pub ThreeGoByOneCell : Type 0
ThreeGoByOneCell = (os : List Origin) (cells : List Cell) (bare : List Port) (j : ℕ)
    → (anchor (facts_of os cells bare) j ≡ j)
    ⊎ ((taker (facts_of os cells bare) (anchor (facts_of os cells bare) j) ≡ Some j)
    ⊎ (slice_index_or (carriers_of (facts_of os cells bare)) (anchor (facts_of os cells bare) j) None ≡ Some j))
