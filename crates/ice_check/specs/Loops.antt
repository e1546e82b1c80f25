-- Loops of signals, and orders in which the signals and the cells of a netlist can be evaluated.
use Rattle.std.specs.Prelude.{◌≡◌, ℕ, ◌<◌, ◌≤◌, List, length, map, Option, Some, None}
use Rattle.ice_base_values.specs.Order.{At, IsOrder, IsCycleBelow, IsSimpleCycle}
use Rattle.ice_base_values.specs.Graph.{depends_of, IsWithin}
use Rattle.ice_base_values.specs.System.{present}
use Rattle.ice_base_values.specs.declared.search.Outcome.{Outcome}
use Rattle.ice_base_values.specs.declared.search.Outcome.TheVariants.{Order, Cycle}
use Rattle.ice_net.specs.declared.driver.SignalDriver.{SignalDriver}
use Rattle.ice_net.specs.declared.driver.SignalDriver.TheVariants.{Nothing, Pad, Output}
use Rattle.ice_net.specs.NetlistData.{NetlistData}
use Rattle.ice_net.specs.Drivers.{driver_of}
use Rattle.ice_net.specs.Meaning.{reads, depends_on}

-- ---- signals
-- no signals depend on one another in a circle
pub record HasNoLoop (n : NetlistData) : Type 0 where
  pub none : (cycle : List ℕ) → IsCycleBelow (length n.names) (depends_on n) cycle → ⊥

-- A loop as it is reported: each signal depends on the next, and the last on the first. None stands twice, and the first is the
-- one that was seen first of them.
pub record IsLoop (n : NetlistData) (signals : List ℕ) : Type 0 where
  pub closes : IsSimpleCycle (length n.names) (depends_on n) signals
  pub first_seen : (i first signal : ℕ) → At signals 0 first → At signals i signal → first ≤ signal

-- an order of evaluation of all signals, or a loop
abbrev pub IsSearched : NetlistData → Outcome → Type 0
IsSearched n (Order order) = IsOrder (length n.names) (depends_on n) order.items
IsSearched n (Cycle cycle) = IsLoop n cycle.items

-- there is an order of evaluation of all signals
pub record HasOrder (n : NetlistData) : Type 0 where
  pub order : List ℕ
  pub orders : IsOrder (length n.names) (depends_on n) order

-- ---- cells
-- the cell whose output a driver is
abbrev pub cell_by : SignalDriver → Option ℕ
cell_by Nothing = None
cell_by (Pad k) = None
cell_by (Output i) = Some i

-- the cells that drive some signals, where `driver` tells what drives each
abbrev pub cells_at : (ℕ → SignalDriver) → List ℕ → List ℕ
cells_at driver signals = present (map (λ s. cell_by (driver s)) signals)

-- the cells whose outputs the output of a cell depends on
abbrev pub cells_before : NetlistData → ℕ → List ℕ
cells_before n i = cells_at (driver_of n) (present (reads n (Output i)))

-- ---- graphs
-- a graph of so many points, each of which has these dependences
pub record IsGraphOf (points : ℕ) (depends : ℕ → List ℕ) (rows : List (List ℕ)) : Type 0 where
  pub count : length rows ≡ points
  pub rows_are : (p : ℕ) → p < points → depends_of rows p ≡ depends p
  pub within : IsWithin rows
