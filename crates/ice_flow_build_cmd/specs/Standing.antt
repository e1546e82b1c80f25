-- How the three texts of `build` stand, one look at them after another.
use Rattle.std.specs.Prelude.{ℕ, List, []}
use Rattle.ice_ram_read.specs.ClosedNetlists.{ClosedNetlistData, closed_netlist_of}
use Rattle.ice_check.specs.Sound.{IsSound}
use Rattle.ice_chip.specs.Database.{Parts}
use Rattle.ice_chip_read.specs.Whole.{chip_says}
use Rattle.ice_pcf.specs.Grammar.{pin_text_says}
use Rattle.ice_pcf.specs.declared.constraint.Constraint.{Constraint}
use Rattle.ice_flow_prepare.specs.Prepared.{prepared_on}
use Rattle.ice_flow_build.specs.Answers.{pins_said, places_said, HasBadBits}
use Rattle.ice_flow_build.specs.Laid.{Task, task_of}
use Rattle.ice_flow_build.specs.declared.answer.Effort.{Effort}
use Rattle.ice_flow_frame.specs.declared.cause.Cause.{Cause}
use Rattle.ice_flow_frame.specs.declared.cause.Cause.TheVariants.{Good, BadBlif, BadPcf, BadChip, BadPin, Overfull, Unreachable, GaveUp, WriteFault, BadBits}
use Rattle.ice_flow_frame.specs.Commands.{stands_by, stands_if}
use Rattle.ice_flow_frame.specs.Refusals.{IsNetCause}
use Rattle.ice_flow_frame.specs.Texts.{text_at}
use Rattle.ice_flow_build_cmd.specs.Made.{IsStuckOn, IsGivenUpOn}
use Rattle.ice_flow_build_cmd.specs.Rams.{rams_said}

-- The pins and the places of the task have no fault: the work is done, or with the arrangement that is told a sink can't be reached, or each
-- permitted round ends with an overused wire, or the bits have no circuit.
abbrev pub IsEnd : Task → Effort → Cause → Type 0
IsEnd task effort (Good arrangement tallies kept) = Unit {0}
IsEnd task effort (WriteFault role put) = Unit {0}
IsEnd task effort (Unreachable arrangement net sink) = IsStuckOn task arrangement net sink
IsEnd task effort (GaveUp arrangement logs tallies kept) = IsGivenUpOn task effort arrangement kept.items logs.items tallies.items
IsEnd task effort (BadBits fault) = HasBadBits task effort fault
IsEnd task effort cause = ⊥

-- the places, where the pins have no fault
abbrev pub PlacesStand : Task → Effort → Cause → Type 0
PlacesStand task effort = stands_by (places_said task) Overfull (λ first. IsEnd task effort)

-- the pins of a task
abbrev pub TaskStands : Task → Effort → Cause → Type 0
TaskStands task effort = stands_by (pins_said task) BadPin (λ pads. PlacesStand task effort)

-- a sound netlist: it is prepared, or has RAMs, which can't be built yet
abbrev pub RamsStand : List ℕ → Effort → Parts → List Constraint → ClosedNetlistData → Cause → Type 0
RamsStand name effort parts constraints circuit = stands_by (rams_said circuit) BadPin (λ netlist. TaskStands (task_of parts name constraints (prepared_on parts netlist [])) effort)

-- a netlist that was read: it is sound, or has a fault
abbrev pub NetStands : List ℕ → Effort → Parts → List Constraint → ClosedNetlistData → Cause → Type 0
NetStands name effort parts constraints circuit = stands_if (IsSound circuit.netlist) (IsNetCause circuit.netlist) (RamsStand name effort parts constraints circuit)

-- the netlist's text, for a chip and constraints that were read
abbrev pub BlifStands : List ℕ → Effort → List ℕ → Parts → List Constraint → Cause → Type 0
BlifStands name effort blif_text parts constraints = stands_by (closed_netlist_of blif_text) BadBlif (NetStands name effort parts constraints)

-- the text of the pins, for a chip that was read
abbrev pub PcfStands : List ℕ → Effort → List ℕ → List ℕ → Parts → Cause → Type 0
PcfStands name effort pcf_text blif_text parts = stands_by (pin_text_says pcf_text) BadPcf (BlifStands name effort blif_text parts)

-- First the chip text is looked at, then the text of the pins, the netlist's text, the netlist, its RAMs, the pins, the places, and then
-- what is built.
abbrev pub StandsForBuild : List ℕ → Effort → List (List ℕ) → Cause → Type 0
StandsForBuild name effort texts = stands_by (chip_says (text_at texts 1)) BadChip (PcfStands name effort (text_at texts 2) (text_at texts 3))
