-- The laws of runs.
use Rattle.std.specs.Prelude.{◌≡◌, ℕ, ◌<◌, Bool, Some, List, length}
use Rattle.ice_base_values.specs.Order.{Has}
use Rattle.ice_cells.specs.declared.design.Design.{Design}
use Rattle.ice_cells.specs.declared.root.Root.TheVariants.{PadIn, CellOut, GlobalOut}
use Rattle.ice_cells.specs.Formed.{IsFormed}
use Rattle.ice_cells.specs.Meaning.{HasValues, shows}
use Rattle.ice_cells.specs.Readings.{roots_read}
use Rattle.ice_cells.specs.Runs.{fed_numbers, moved_numbers, runs_of}
use Rattle.ice_carry_chains.specs.Before.{IsBeforeRuns}
use Rattle.ice_carry_laws.specs.AreRuns.{AreRuns}
use Rattle.ice_carry_laws.specs.FormedBefore.{IsFormedBefore}

-- no pad, no cell and no global buffer is read that is not there
pub record ReadsWithin (d : Design) : Type 0 where
  pub inputs : (k : ℕ) → Has (roots_read d) (Some (PadIn k)) → k < length d.pads
  pub outputs : (c : ℕ) → Has (roots_read d) (Some (CellOut c)) → c < length d.cells
  pub buffers : (g : ℕ) → Has (roots_read d) (Some (GlobalOut g)) → g < length d.globals

-- each carry comes to the carry or the last input that read it, all else reads the cell that passes it on, and a flip-flop is read where it went
abbrev pub RunsAreTied : Type 0
RunsAreTied = (d : Design) → IsBeforeRuns d → AreRuns d (runs_of d) (moved_numbers d) (fed_numbers d)

-- with its runs a design shows what it shows without, for each list of levels
abbrev pub RunsShowTheSame : Type 0
RunsShowTheSame = (d : Design) → IsBeforeRuns d → ReadsWithin d → (levels : List (List Bool)) → shows (runs_of d) levels ≡ shows d levels

-- each node of a design with runs has a value, whatever the levels and whatever is kept
abbrev pub RunsHaveValues : Type 0
RunsHaveValues = (d : Design) → IsBeforeRuns d → ReadsWithin d → HasValues (runs_of d)

-- a design with runs keeps to what every design with runs keeps to
abbrev pub RunsAreFormed : Type 0
RunsAreFormed = (d : Design) → IsBeforeRuns d → ReadsWithin d → IsFormedBefore d → IsFormed (runs_of d)
