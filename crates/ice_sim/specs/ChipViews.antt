-- A run of a configured chip, as contracts see it.
use Rattle.std.specs.Prelude.{List}
use Rattle.ice_bits.specs.Configuration.{bits_of}
use Rattle.ice_sim_sweep.specs.declared.parts.Feed.{Feed}
use Rattle.ice_sim.specs.declared.chip_run.ChipRun.TheInside.{Inside}
use Rattle.ice_sim_sweep.specs.Plans.{state_of}
use Rattle.ice_sim.specs.ChipRuns.{ChipRunData, IsChipRun}

abbrev pub run_view : Inside → ChipRunData
run_view r = record { parts = r.chip.now; configuration = r.circuit.now.configuration; bonded = r.pads.now; state = state_of r.memories.items }

pub record IsRunning (r : Inside) : Type 0 where
  pub feeds : List Feed
  pub run : IsChipRun r.chip.now (bits_of r.circuit.now.configuration) r.circuit.now.configuration.extras r.pads.now feeds r.plan r.memories.items r.values.items
