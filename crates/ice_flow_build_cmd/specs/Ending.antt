-- The refusal of each fault of building.
use Rattle.std.specs.Prelude.{◌≡◌, ◌⊎◌, ℕ, false, Option, None, List, length, option_map}
use Rattle.ice_core.specs.declared.log.RoundLog.{RoundLog}
use Rattle.ice_report.specs.RouteReport.{route_text}
use Rattle.ice_flow_build.specs.declared.answer.BuildFault.{BuildFault}
use Rattle.ice_flow_build.specs.declared.answer.BuildFault.TheVariants as build
use Rattle.ice_flow_build.specs.declared.answer.Layout.{Layout}
use Rattle.ice_flow_frame.specs.declared.cause.Cause.TheVariants.{NoMemory}
use Rattle.ice_flow_frame.specs.declared.giving.Refused.{Refused}
use Rattle.ice_flow_frame.specs.Ends.{text_of}
use Rattle.ice_flow_build_frame.specs.Causes.{IsCauseOf}
use Rattle.ice_flow_build_cmd.specs.Asked.{Build}

-- the report on rounds that gave up, where it is asked for
abbrev pub parting_text : Build → Layout → ℕ → List RoundLog → Option (List ℕ)
parting_text b layout nets logs = option_map (λ name. route_text (length layout.design.cells) (length layout.clusters.list) nets logs false) b.report

-- the report where the fault is that the rounds gave up
abbrev pub report_of : Build → BuildFault → Option (List ℕ)
report_of b (build.GaveUp layout nets kept logs tallies) = parting_text b layout nets logs.items
report_of b fault = None

-- the cause of the fault, with that report; or there was no memory for it
abbrev pub IsBuildRefusal : Build → BuildFault → Refused → Type 0
IsBuildRefusal b fault refused = ((refused.cause ≡ NoMemory) × (refused.report ≡ None)) ⊎ (IsCauseOf fault refused.cause × (text_of refused.report ≡ report_of b fault))
