-- What `build` makes of its texts, and what it shows.
use Rattle.std.specs.Prelude.{◌≡◌, ℕ, true, false, Some, List, Ok}
use Rattle.ice_place.specs.declared.arrangement.Arrangement.{Arrangement}
use Rattle.ice_asc.specs.Grammar.{asc_in}
use Rattle.ice_asc.specs.Text.{asc_text}
use Rattle.ice_chip.specs.Database.{PackageRows}
use Rattle.ice_chip.specs.Lookups.{package_of}
use Rattle.ice_core.specs.declared.log.RoundLog.{RoundLog}
use Rattle.ice_pads.specs.Assign.{IsGivenAlike}
use Rattle.ice_report.specs.PinReport.{pin_text}
use Rattle.ice_negotiate_defs.specs.declared.kept.Kept.{Kept}
use Rattle.ice_words.specs.Grips.{Shut}
use Rattle.ice_flow_build.specs.Answers.{IsBuilt, IsGivenUp}
use Rattle.ice_flow_build.specs.Laid.{Task, arrangement_in, plan_in}
pub use Rattle.ice_flow_build.specs.Placements.{IsLaidOn, IsStuckOn, IsGivenUpOn}
use Rattle.ice_flow_build.specs.Shown.{RealisesNetlist}
use Rattle.ice_flow_build.specs.declared.answer.Built.{Built}
use Rattle.ice_flow_build.specs.declared.answer.Effort.{Effort}
use Rattle.ice_flow_frame.specs.Told.{Told, telling}
use Rattle.ice_flow_build_cmd.specs.Asked.{Build, IsAsked, effort_of}
use Rattle.ice_flow_build_cmd.specs.Reports.{routes_text, texts_of}

-- The netlist that the texts say is built with this arrangement, of whose routing this is told, and these texts are made of it: that of the
-- bits; where it is asked for, the report on the pins, which tells of the netlist read; and where it is asked for, the report on the
-- routes, which tells of the rounds that led to the bits. The text of the bits says them, and they are a circuit that shows what the
-- netlist read shows, at the pads of its ports.
pub record IsMadeByBuild (b : Build) (texts made : List (List ℕ)) (arrangement : Arrangement) (told : Told) : Type 0 where
  pub task : Task
  pub built : Built
  pub bonded : PackageRows
  pub is_asked : IsAsked b.package_name texts task
  pub is_built : IsBuilt task (effort_of b) built
  pub is_package : package_of task.parts b.package_name ≡ Some bonded
  pub is_arrangement : arrangement ≡ arrangement_in built.layout
  pub is_told : told ≡ telling built.routed.tallies built.kept
  pub are_texts : made ≡ texts_of b (asc_text task.parts built.bits) (pin_text is_asked.circuit bonded built.layout.pads.ports) (routes_text task.parts built.layout built.routed.logs.items true)
  pub is_read_back : asc_in task.parts (asc_text task.parts built.bits) ≡ Ok built.bits
  pub are_pads : IsGivenAlike task.parts b.package_name task.constraints is_asked.circuit task.closing built.layout.pads
  pub is_shown : RealisesNetlist is_asked.circuit built.layout.pads.ports task.parts built.bits

-- ---- of an arrangement
-- with this arrangement the task is built
abbrev pub IsBuiltOn : Task → Effort → Arrangement → Type 0
IsBuiltOn task effort arrangement = (built : Built) × IsBuilt task effort built × (arrangement_in built.layout ≡ arrangement)

-- and this is told of its routing
abbrev pub IsToldOn : Task → Effort → Arrangement → Told → Type 0
IsToldOn task effort arrangement told = (built : Built) × IsBuilt task effort built × (arrangement_in built.layout ≡ arrangement) × (telling built.routed.tallies built.kept ≡ told)

-- with this arrangement each permitted round ends with an overused wire, this is what the opening left and these are the logs and the tallies of
-- the rounds, and this is the report on them
abbrev pub IsGivenUpIn : Task → Effort → Arrangement → List Kept → List RoundLog → List Shut → List ℕ → Type 0
IsGivenUpIn task effort arrangement kept logs tallies report =
    IsLaidOn task arrangement (λ layout. IsGivenUp task.parts (plan_in layout) effort kept logs tallies × (report ≡ routes_text task.parts layout logs false))
