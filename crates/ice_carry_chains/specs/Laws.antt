-- The law of runs.
use Rattle.ice_cells.specs.declared.design.Design.{Design}
use Rattle.ice_cells.specs.Runs.{runs_of}
use Rattle.ice_carry_chains.specs.Before.{IsBeforeRuns}
use Rattle.ice_carry_chains.specs.Holding.{HoldCarries}

-- the runs that are made of a design hold each cell that has a carry once
abbrev pub RunsHoldTheCarries : Type 0
RunsHoldTheCarries = (d : Design) → IsBeforeRuns d → HoldCarries (runs_of d)
