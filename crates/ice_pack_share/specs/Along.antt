-- The origins of signals, one after another along an order of evaluation.
use Rattle.std.specs.Prelude.{◌≡◌, ℕ, ◌<◌, false, List, length, map, Option, slice_get, slice_index_or}
use Rattle.std.specs.Option.{option_map_or}
use Rattle.ice_base_values.specs.System.{reading}
use Rattle.ice_base_values.specs.Order.{At}
use Rattle.ice_net.specs.declared.cell.Cell.{Cell}
use Rattle.ice_net.specs.declared.driver.SignalDriver.{SignalDriver}
use Rattle.ice_net.specs.declared.driver.SignalDriver.TheVariants.{Nothing, Output}
use Rattle.ice_net.specs.declared.driver.SignalDriver.TheVariants as driver
use Rattle.ice_net.specs.NetlistData.{NetlistData}
use Rattle.ice_cells.specs.declared.origin.Origin.{Origin}
use Rattle.ice_cells.specs.declared.origin.Origin.TheVariants.{Fixed, Pad}
use Rattle.ice_cells.specs.Origins.{cell_aliases, cell_origin, origin}

-- the origin of a signal, by the origins found so far
abbrev pub found_at : List Origin → ℕ → Origin
found_at found s = slice_index_or found s (Fixed false)

-- the origins of what inputs read; a missing input reads 0
abbrev pub origins_read : List Origin → List (Option ℕ) → List Origin
origins_read found inputs = map (reading (Fixed false) (found_at found)) inputs

-- what a driver makes of the origins found so far
abbrev pub made_of : List Cell → List Origin → SignalDriver → Origin
made_of cells found Nothing = Fixed false
made_of cells found (driver.Pad k) = Pad k
made_of cells found (Output i) = option_map_or (λ (cell : Cell). cell_origin i (origins_read found (cell_aliases cell)) cell) (slice_get cells i) (Fixed false)

-- the origins of all signals that stand before place i of the order are found
pub record AreFound (n : NetlistData) (order : List ℕ) (i : ℕ) (found : List Origin) : Type 0 where
  pub long : length found ≡ length n.names
  pub found_are : (j s : ℕ) → j < i → At order j s → found_at found s ≡ origin n s
