-- The texts that `build` writes: that of the bits, and the reports that are asked for.
use Rattle.std.specs.Prelude.{ℕ, Bool, Option, None, Some, List, [], ◌∷◌, ◌++◌, length}
use Rattle.ice_net.specs.NetlistData.{NetlistData}
use Rattle.ice_chip.specs.Database.{Parts, PackageRows}
use Rattle.ice_chip.specs.declared.rows.Pad.{Pad}
use Rattle.ice_core.specs.declared.log.RoundLog.{RoundLog}
use Rattle.ice_report.specs.PinReport.{pin_text}
use Rattle.ice_report.specs.RouteReport.{route_text}
use Rattle.ice_flow_build.specs.Answers.{net_count}
use Rattle.ice_flow_build.specs.Laid.{plan_in}
use Rattle.ice_flow_build.specs.declared.answer.Layout.{Layout}
use Rattle.ice_flow_build_cmd.specs.Asked.{Build}

-- the report on the pins of ports with these pads, by the package that was looked for; without a package it has no lines
abbrev pub pins_text : Option PackageRows → NetlistData → List Pad → List ℕ
pins_text None n pads = []
pins_text (Some bonded) n pads = pin_text n bonded pads

-- the report on the routes of a placed design, of rounds with these logs: how many cells it has, how many tiles it needs and how many
-- nets it has, what happened in each round, and whether the nets were routed in the end
abbrev pub routes_text : Parts → Layout → List RoundLog → Bool → List ℕ
routes_text parts layout logs routed = route_text (length layout.design.cells) (length layout.clusters.list) (net_count parts (plan_in layout)) logs routed

-- a text, where its file is asked for
abbrev pub text_asked : Option (List ℕ) → List ℕ → List (List ℕ)
text_asked None text = []
text_asked (Some name) text = text ∷ []

-- the reports that are asked for, in the order of writing
abbrev pub reports_of : Build → List ℕ → List ℕ → List (List ℕ)
reports_of b pins report = text_asked b.pins pins ++ text_asked b.report report

-- what is written, in the order of writing
abbrev pub texts_of : Build → List ℕ → List ℕ → List ℕ → List (List ℕ)
texts_of b asc pins report = asc ∷ reports_of b pins report
