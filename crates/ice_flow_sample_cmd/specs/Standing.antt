-- How the sample texts of a number stand, one look at them after another.
use Rattle.std.specs.Prelude.{ℕ, []}
use Rattle.ice_flow_frame.specs.Commands.{stands_by, stands_if}
use Rattle.ice_flow_frame.specs.Refusals.{IsNetCause}
use Rattle.ice_flow_frame.specs.declared.cause.Cause.{Cause}
use Rattle.ice_flow_frame.specs.declared.cause.Cause.TheVariants.{Good, BadBlif, BadChip, BadPin, Overfull, Unreachable, GaveUp, WriteFault}
use Rattle.ice_blif.specs.Grammar.{netlist_of}
use Rattle.ice_flow_build.specs.Answers.{pins_said, places_said}
use Rattle.ice_flow_build.specs.Laid.{Task, task_of}
use Rattle.ice_flow_build.specs.Placements.{IsStuckOn, IsGivenUpOn}
use Rattle.ice_check.specs.Sound.{IsSound}
use Rattle.ice_chip.specs.Database.{Parts}
use Rattle.ice_chip_read.specs.Whole.{chip_says}
use Rattle.ice_net.specs.NetlistData.{NetlistData}
use Rattle.ice_flow_sample_cmd.specs.Samples.{chip_text, net_text, package_name, sample_effort}

-- The pins and the places of the task have no fault: the work is done, or with the arrangement that is told a sink can't be reached, or each
-- permitted round ends with an overused wire.
abbrev pub IsEnd : Task → Cause → Type 0
IsEnd task (Good arrangement tallies kept) = Unit {0}
IsEnd task (WriteFault role put) = Unit {0}
IsEnd task (Unreachable arrangement net sink) = IsStuckOn task arrangement net sink
IsEnd task (GaveUp arrangement logs tallies kept) = IsGivenUpOn task sample_effort arrangement kept.items logs.items tallies.items
IsEnd task cause = ⊥

-- the places, where the pins have no fault
abbrev pub PlacesStand : Task → Cause → Type 0
PlacesStand task = stands_by (places_said task) Overfull (λ first. IsEnd task)

-- the pins of a task
abbrev pub TaskStands : Task → Cause → Type 0
TaskStands task = stands_by (pins_said task) BadPin (λ pads. PlacesStand task)

-- a netlist that was read: it is sound, or it has a fault
abbrev pub NetStands : Parts → NetlistData → Cause → Type 0
NetStands parts circuit = stands_if (IsSound circuit) (IsNetCause circuit) (TaskStands (task_of parts package_name [] circuit))

-- the netlist's text, for a chip that was read
abbrev pub BlifStands : ℕ → Parts → Cause → Type 0
BlifStands number parts = stands_by (netlist_of (net_text number)) BadBlif (NetStands parts)

-- First the chip's text is looked at, then the netlist's text, the netlist, the pins, the places, and then what is routed.
abbrev pub StandsForSample : ℕ → Cause → Type 0
StandsForSample number = stands_by (chip_says chip_text) BadChip (BlifStands number)
