-- Netlists that RAMs close: their first ports are seen from outside, and behind them stand those of the RAMs.
use Rattle.std.specs.Prelude.{ℕ, Bool, List, map, take}
use Rattle.ice_base_values.specs.System.{machine_shows}
use Rattle.ice_net.specs.declared.driver.Drive.{Drive}
use Rattle.ice_net.specs.NetlistData.{NetlistData}
use Rattle.ice_net.specs.Meaning.{State, step, start}
use Rattle.ice_ram.specs.declared.setup.Setup.{Setup}
use Rattle.ice_ram.specs.Ram.{Kept}
use Rattle.ice_ram.specs.Ports.{joined_levels, after_all}
use Rattle.ice_ram.specs.Closing.{closed}

-- one step of a netlist with so many first ports
unfoldable pub closed_step : NetlistData → ℕ → State × List (Setup × Kept) → List Bool → (State × List (Setup × Kept)) × List Drive
closed_step n first = closed (step n) (joined_levels first) (λ rams drives. after_all drives first rams)

-- what the first ports drive, step by step, for a list of their levels
abbrev pub closed_shows : NetlistData → ℕ → List (Setup × Kept) → List (List Bool) → List (List Drive)
closed_shows n first rams levels = map (take first) (machine_shows (closed_step n first) (start n, rams) levels)
