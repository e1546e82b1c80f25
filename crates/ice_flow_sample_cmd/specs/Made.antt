-- What `sample` makes of the sample texts.
use Rattle.std.specs.Prelude.{◌≡◌, ℕ, List, length}
use Rattle.ice_place.specs.declared.arrangement.Arrangement.{Arrangement}
use Rattle.ice_flow_build.specs.Answers.{IsRouted, net_count}
use Rattle.ice_flow_build.specs.Laid.{Task, IsLaidOut, arrangement_in, length_on, plan_in}
use Rattle.ice_flow_build.specs.Placements.{IsRoutedSo}
use Rattle.ice_flow_build.specs.declared.answer.Layout.{Layout}
use Rattle.ice_chip.specs.Database.{Parts}
use Rattle.ice_negotiate_defs.specs.declared.fault.Routed.{Routed}
use Rattle.ice_report.specs.Summary.{summary_text}
use Rattle.ice_report.specs.declared.samples.Summary.{Summary}
use Rattle.ice_flow_sample_cmd.specs.Samples.{IsAsked, sample_effort}
use Rattle.ice_negotiate_defs.specs.declared.kept.Kept.{Kept}
use Rattle.ice_flow_frame.specs.Told.{Told}

-- What is told of a placed and routed design: how many cells it has, how many tiles they need (one for each cluster), how many nets it has,
-- how many rounds there were, and the length of its wires.
abbrev pub summary_of : ℕ → Parts → Layout → Routed → Summary
summary_of number parts layout routed = record {
  number = number;
  cells = length layout.design.cells;
  tiles = length layout.clusters.list;
  nets = net_count parts (plan_in layout);
  rounds = length routed.logs.items;
  length = length_on parts layout.clusters layout.design layout.pads layout.placement;
}

-- what is told of a routing
abbrev pub routing_told : List Kept → Routed → Told
routing_told kept routed = record { tallies = routed.tallies.items; kept = kept }

-- The sample texts of the number say a task that is laid out with this arrangement. Its placement is legal, and no exchange and no move makes
-- it shorter. It is routed in rounds of these tallies: there are at most 64, all but the last end with an overused wire, and the last with
-- none. This is the summary of it.
pub record IsSampled (number : ℕ) (text : List ℕ) (arrangement : Arrangement) (told : Told) : Type 0 where
  pub task : Task
  pub layout : Layout
  pub kept : List Kept
  pub routed : Routed
  pub is_asked : IsAsked number task
  pub is_laid : IsLaidOut task layout
  pub is_routed : IsRouted task.parts (plan_in layout) sample_effort kept routed
  pub is_arrangement : arrangement ≡ arrangement_in layout
  pub is_told : told ≡ routing_told kept routed
  pub is_text : text ≡ summary_text (summary_of number task.parts layout routed)

-- with this arrangement the task is routed, and this is told of it
abbrev pub IsToldOn : Task → Arrangement → Told → Type 0
IsToldOn task arrangement told = (kept : List Kept) × (routed : Routed) × IsRoutedSo task sample_effort arrangement kept routed × (routing_told kept routed ≡ told)
