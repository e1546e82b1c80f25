-- From what the stages answer to what is made of the sample texts, or why they are refused.
use Rattle.std.proofs.Common.{◌≡◌, ℕ, false, List, Result, Ok, Err, IfOk, refl, sym, subst}
use Rattle.ice_flow_frame.proofs.Standings.{at_fault, behind, pin_refused, place_refused}
use Rattle.ice_flow_frame.specs.Commands.{IsRefusal}
use Rattle.ice_flow_frame.specs.Texts.{text_at}
use Rattle.ice_flow_frame.specs.declared.cause.Cause.{Cause}
use Rattle.ice_flow_frame.specs.declared.cause.Cause.TheVariants.{BadPin, Overfull, Unreachable, GaveUp, NoMemory}
use Rattle.ice_flow_frame.specs.declared.giving.Made.{Made}
use Rattle.ice_flow_build.proofs.Answering.{pins_good, places_good}
use Rattle.ice_flow_build.specs.Answers.{IsRouted, net_count, pins_said, places_said}
use Rattle.ice_flow_build.specs.Laid.{Task, IsLaidOut, arrangement_in, plan_in}
use Rattle.ice_flow_build.specs.Stages.{IsLayFault, IsRouteFault, IsEndFault, unrouted}
use Rattle.ice_flow_build.specs.declared.answer.BuildFault.{BuildFault}
use Rattle.ice_flow_build.specs.declared.answer.BuildFault.TheVariants as build
use Rattle.ice_flow_build.specs.declared.answer.Effort.{Effort}
use Rattle.ice_flow_build.specs.declared.answer.Layout.{Layout}
use Rattle.ice_flow_build_frame.specs.Causes.{IsCauseOf}
use Rattle.ice_negotiate_defs.specs.declared.kept.Kept.{Kept}
use Rattle.ice_negotiate_defs.specs.declared.fault.RouteFault.{RouteFault}
use Rattle.ice_negotiate_defs.specs.declared.fault.RouteFault.TheVariants as route
use Rattle.ice_negotiate_defs.specs.declared.fault.Routed.{Routed}
use Rattle.ice_report.specs.Summary.{summary_text}
use Rattle.ice_flow_frame.specs.Told.{told_in}
use Rattle.ice_flow_sample_cmd.specs.Made.{IsSampled, summary_of, routing_told}
use Rattle.ice_flow_sample_cmd.specs.Samples.{sample_effort, IsAsked}
use Rattle.ice_flow_sample_cmd.specs.Standing.{IsEnd, PlacesStand, TaskStands}
use Rattle.ice_flow_sample_cmd.proofs.Standing.{end_so}

-- ---- the stages
pub lay_refused : (task : Task) (fault : BuildFault) (cause : Cause) → IsLayFault task fault → IsCauseOf fault cause → IsRefusal (TaskStands task) cause
lay_refused task (build.Pins fault) cause said is = pin_refused (TaskStands task) fault cause (λ known. at_fault (pins_said task) BadPin (λ pads. PlacesStand task) fault said) is
lay_refused task (build.Places fault) cause (pads, pins, said) is =
    place_refused (TaskStands task) fault cause
    (λ known. behind (pins_said task) BadPin (λ found. PlacesStand task) pads (Overfull fault) pins (at_fault (places_said task) Overfull (λ first. IsEnd task) fault said)) is
lay_refused task (build.Unreachable layout net sink) cause never is = absurd never
lay_refused task (build.GaveUp layout nets kept logs tallies) cause never is = absurd never
lay_refused task (build.Bits fault) cause never is = absurd never
lay_refused task build.NoMemory cause free is = subst (IsRefusal (TaskStands task)) (sym is) tt

-- how long the sample is tried, by so many workers, on whom nothing depends
abbrev effort_by : ℕ → Effort
effort_by workers = record { seed = 1; rounds = 64; workers = workers; opening = false }

pub end_refused : (task : Task) (workers : ℕ) (layout : Layout) (fault : BuildFault) (cause : Cause) → IsLaidOut task layout → IsEndFault task.parts (effort_by workers) layout fault → IsCauseOf fault cause
    → IsRefusal (TaskStands task) cause
end_refused task workers layout fault cause laid (kept, stop, is, same) told =
    by stop is (subst (λ (f : BuildFault). IsCauseOf f cause) same told)
  where
    at_end : (this : Cause) → IsEnd task this → TaskStands task this
    at_end this m = end_so task layout.pads laid.placed.first this (pins_good task layout laid) (places_good task layout laid) m

    by : (stop : RouteFault) → IsRouteFault task.parts (plan_in layout) (effort_by workers) kept.items stop → IsCauseOf (unrouted layout (net_count task.parts (plan_in layout)) kept stop) cause
        → IsRefusal (TaskStands task) cause
    by (route.Unreachable net sink) stuck e =
        subst (IsRefusal (TaskStands task)) (sym e) (at_end (Unreachable (arrangement_in layout) net sink) (layout, laid, refl, stuck), tt)
    by (route.GaveUp logs tallies) given e =
        subst (IsRefusal (TaskStands task)) (sym e) (at_end (GaveUp (arrangement_in layout) logs tallies kept) (layout, laid, refl, given), tt)
    by route.NoMemory free e = subst (IsRefusal (TaskStands task)) (sym e) tt

-- ---- what is made
pub sampled : (number : ℕ) (task : Task) (layout : Layout) (kept : List Kept) (routed : Routed) (result : Result Made Cause) → IsAsked number task → IsLaidOut task layout
    → IsRouted task.parts (plan_in layout) sample_effort kept routed → IfOk result (λ made. text_at made.texts 1 ≡ summary_text (summary_of number task.parts layout routed))
    → IfOk result (λ made. made.arrangement ≡ arrangement_in layout) → IfOk result (λ made. told_in made ≡ routing_told kept routed)
    → IfOk result (λ made. IsSampled number (text_at made.texts 1) made.arrangement (told_in made))
sampled number task layout kept routed (Ok made) asked laid is text here tallied = record {
  task = task;
  layout = layout;
  kept = kept;
  routed = routed;
  is_asked = asked;
  is_laid = laid;
  is_routed = is;
  is_arrangement = here;
  is_told = tallied;
  is_text = text;
}
sampled number task layout kept routed (Err cause) asked laid is text here tallied = tt
