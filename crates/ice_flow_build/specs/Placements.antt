-- Of one arrangement of a task: the ranks of its cells, and the tile of each cluster.
use Rattle.std.specs.Prelude.{◌≡◌, List}
use Rattle.ice_base.specs.declared.number.NetNo.{NetNo}
use Rattle.ice_base.specs.declared.number.WireNo.{WireNo}
use Rattle.ice_core.specs.declared.log.RoundLog.{RoundLog}
use Rattle.ice_negotiate_defs.specs.declared.fault.Routed.{Routed}
use Rattle.ice_negotiate_defs.specs.declared.kept.Kept.{Kept}
use Rattle.ice_place.specs.declared.arrangement.Arrangement.{Arrangement}
use Rattle.ice_words.specs.Grips.{Shut}
use Rattle.ice_flow_build.specs.Answers.{IsRouted, IsStuck, IsGivenUp}
use Rattle.ice_flow_build.specs.Laid.{Task, IsLaidOut, arrangement_in, plan_in}
use Rattle.ice_flow_build.specs.declared.answer.Effort.{Effort}
use Rattle.ice_flow_build.specs.declared.answer.Layout.{Layout}

-- the task is laid out with this arrangement, and this is true of the layout
abbrev pub IsLaidOn : Task → Arrangement → (Layout → Type 0) → Type 0
IsLaidOn task arrangement IsSo = (layout : Layout) × IsLaidOut task layout × (arrangement_in layout ≡ arrangement) × IsSo layout

-- with this arrangement the nets are so routed, from this opening where it is asked for
abbrev pub IsRoutedSo : Task → Effort → Arrangement → List Kept → Routed → Type 0
IsRoutedSo task effort arrangement kept routed = IsLaidOn task arrangement (λ layout. IsRouted task.parts (plan_in layout) effort kept routed)

-- with this arrangement the nets are routed within the permitted rounds, by trees that share no wire
abbrev pub IsRoutedOn : Task → Effort → Arrangement → Type 0
IsRoutedOn task effort arrangement = (kept : List Kept) × (routed : Routed) × IsRoutedSo task effort arrangement kept routed

-- with this arrangement no walk leads from the net's root to any target of a sink, of which this is the first
abbrev pub IsStuckOn : Task → Arrangement → NetNo → WireNo → Type 0
IsStuckOn task arrangement net sink = IsLaidOn task arrangement (λ layout. IsStuck task.parts (plan_in layout) net sink)

-- with this arrangement each permitted round ends with an overused wire, and these are the logs and the tallies of the rounds
abbrev pub IsGivenUpOn : Task → Effort → Arrangement → List Kept → List RoundLog → List Shut → Type 0
IsGivenUpOn task effort arrangement kept logs tallies = IsLaidOn task arrangement (λ layout. IsGivenUp task.parts (plan_in layout) effort kept logs tallies)
