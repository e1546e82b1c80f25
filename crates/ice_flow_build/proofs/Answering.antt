-- The answers of the stages of building make its answer.
use Rattle.std.proofs.Common.{◌≡◌, ◌⊎◌, ℕ, List, [], inl, inr, refl, sym, ap, ◌∙◌, subst}
use Rattle.std.specs.Prelude.{Result, Ok, Err}
use Rattle.ice_net.specs.NetlistData.{NetlistData}
use Rattle.ice_bits.specs.Configuration.{Bits as BitsAt, bits_of}
use Rattle.ice_chip.specs.Database.{Parts}
use Rattle.ice_cells.specs.Clusters.{clusters_of}
use Rattle.ice_cells.specs.Ranks.{clusters_by}
use Rattle.ice_cells.specs.Runs.{design_of}
use Rattle.ice_cells.specs.declared.design.Design.{Design}
use Rattle.ice_decode.specs.Faults.{HasNoLoop}
use Rattle.ice_negotiate_defs.specs.declared.fault.RouteFault.{RouteFault}
use Rattle.ice_negotiate_defs.specs.declared.fault.RouteFault.TheVariants as route
use Rattle.ice_pads.specs.Assign.{PadsData, assign_of}
use Rattle.ice_pads.specs.declared.closing.Closing.{Closing}
use Rattle.ice_pads.specs.declared.fault.PinFault.{PinFault}
use Rattle.ice_place.specs.Place.{chunks_of, place_of}
use Rattle.ice_place.specs.declared.fault.PlaceFault.{PlaceFault}
use Rattle.ice_emit_meaning_laws.specs.Feeds.{FaultsAreRings, IsRingless}
use Rattle.ice_sites.specs.Legal.{IsLegal}
use Rattle.ice_sites.specs.Stretches.{stretches_of}
use Rattle.ice_emit_defs.specs.Routed.{AreTrees}
use Rattle.ice_emit_defs.specs.Written.{IsWritten}
use Rattle.ice_flow_build.specs.Answers.{IsBuilt, IsFault, IsComplete, IsRouted, net_count, pins_said, places_said, routes_in, IsPlaceable}
use Rattle.ice_flow_build.specs.Laid.{Task, IsLaidOut, IsOnSites, IsSettled, StandsOn, plan_in}
use Rattle.ice_flow_build.specs.Shown.{RealisesNetlist}
use Rattle.ice_flow_build.specs.Stages.{IsPlaceFault, IsLayFault, IsRouteFault, IsFinished, IsEndFault, IsBitsFault, unrouted}
use Rattle.ice_flow_build.specs.declared.answer.Built.{Built}
use Rattle.ice_flow_build.specs.declared.answer.Effort.{Effort}
use Rattle.ice_flow_build.specs.declared.answer.Layout.{Layout}
use Rattle.ice_flow_build.specs.declared.answer.BuildFault.{BuildFault}
use Rattle.ice_flow_build.specs.declared.answer.BuildFault.TheVariants.{Pins, Places, Unreachable, GaveUp, Bits, NoMemory}

-- what is said of pads by the netlist and its closing is said by those of the task
said_of_task : (task : Task) (n : NetlistData) (closing : Closing) (d : Design) (found : PadsData) → n ≡ task.circuit → closing ≡ task.closing → assign_of task.parts task.name task.constraints n closing d ≡ Ok found
    → assign_of task.parts task.name task.constraints task.circuit task.closing d ≡ Ok found
said_of_task task n closing d found same_net same_closing said =
    subst (λ (x : Closing). assign_of task.parts task.name task.constraints task.circuit x d ≡ Ok found) same_closing
    (subst (λ (x : NetlistData). assign_of task.parts task.name task.constraints x closing d ≡ Ok found) same_net said)

-- ---- faults of stages
-- the places have a fault, where the pins have none
pub lay_stops : (task : Task) (n : NetlistData) (closing : Closing) (d : Design) (found : PadsData) (fault : BuildFault) → n ≡ task.circuit → closing ≡ task.closing → d ≡ design_of task.circuit
    → assign_of task.parts task.name task.constraints n closing d ≡ Ok found → IsPlaceFault task.parts d fault → IsLayFault task fault
lay_stops task n closing d found fault same_net same_closing same_design said stopped =
    let pads_said = said_of_task task n closing d found same_net same_closing said in
    by fault (subst (λ (x : Design). assign_of task.parts task.name task.constraints task.circuit task.closing x ≡ Ok found) same_design pads_said)
    (subst (λ (x : Design). IsPlaceFault task.parts x fault) same_design stopped)
  where
    by : (fault : BuildFault) → pins_said task ≡ Ok found → IsPlaceFault task.parts (design_of task.circuit) fault → IsLayFault task fault
    by (Pins fault) good never = absurd never
    by (Places fault) good e = (found, good, e)
    by (Unreachable layout net sink) good never = absurd never
    by (GaveUp layout nets kept logs tallies) good never = absurd never
    by (Bits fault) good never = absurd never
    by NoMemory good e = tt

pub lay_fault : (task : Task) (effort : Effort) (fault : BuildFault) → IsLayFault task fault → IsFault task effort fault
lay_fault task effort (Pins fault) e = e
lay_fault task effort (Places fault) e = e
lay_fault task effort (Unreachable layout net sink) never = absurd never
lay_fault task effort (GaveUp layout nets kept logs tallies) never = absurd never
lay_fault task effort (Bits fault) never = absurd never
lay_fault task effort NoMemory e = tt

pub end_fault : (task : Task) (effort : Effort) (layout : Layout) (fault : BuildFault) → IsLaidOut task layout → IsEndFault task.parts effort layout fault → IsFault task effort fault
end_fault task effort layout fault laid (kept, stop, is, same) = subst (IsFault task effort) (sym same) (by stop is)
  where
    by : (stop : RouteFault) → IsRouteFault task.parts (plan_in layout) effort kept.items stop → IsFault task effort (unrouted layout (net_count task.parts (plan_in layout)) kept stop)
    by (route.Unreachable net sink) is = (laid, is)
    by (route.GaveUp logs tallies) is = (laid, is, refl)
    by route.NoMemory is = tt

-- the bits have no circuit
pub bits_stop : (task : Task) (effort : Effort) (made : Built) (fault : BuildFault) → FaultsAreRings task.parts (bits_of made.bits) made.bits.extras → IsBuilt task effort made → IsBitsFault task.parts made.bits fault
    → IsFault task effort fault
bits_stop task effort made (Pins fault) rings is never = absurd never
bits_stop task effort made (Places fault) rings is never = absurd never
bits_stop task effort made (Unreachable layout net sink) rings is never = absurd never
bits_stop task effort made (GaveUp layout nets kept logs tallies) rings is never = absurd never
bits_stop task effort made (Bits fault) rings is stop = record { built = made; is_built = is; undecoded = stop; ring = rings fault stop.is_fault stop.told }
bits_stop task effort made NoMemory rings is stop = tt

-- ---- what is built
-- a design with its clusters by ranks and pads, on sites
pub on_sites : (task : Task) (n : NetlistData) (closing : Closing) (d : Design) (found : PadsData) (layout : Layout) → n ≡ task.circuit → closing ≡ task.closing → d ≡ design_of task.circuit
    → assign_of task.parts task.name task.constraints n closing d ≡ Ok found
    → layout.design ≡ d → layout.clusters ≡ clusters_by layout.ranks d → layout.pads ≡ found → IsLegal (stretches_of task.parts) (chunks_of layout.clusters.list) layout.placement → IsOnSites task layout
on_sites task n closing d found layout same_net same_closing same_design said design_is clusters_are pads_are legal =
    let said_of_pads = subst (λ (x : PadsData). assign_of task.parts task.name task.constraints task.circuit task.closing d ≡ Ok x) (sym pads_are) (said_of_task task n closing d found same_net same_closing said) in
    record {
      design = design_is ∙ same_design;
      clusters = clusters_are ∙ ap (clusters_by layout.ranks) (sym design_is);
      pads = subst (λ (x : Design). assign_of task.parts task.name task.constraints task.circuit task.closing x ≡ Ok layout.pads) (sym design_is) said_of_pads;
      legal = legal;
    }

pub laid_out : (task : Task) (n : NetlistData) (closing : Closing) (d : Design) (found : PadsData) (layout : Layout) → n ≡ task.circuit → closing ≡ task.closing → d ≡ design_of task.circuit
    → assign_of task.parts task.name task.constraints n closing d ≡ Ok found
    → layout.design ≡ d → layout.clusters ≡ clusters_by layout.ranks d → layout.pads ≡ found → IsSettled task.parts layout.clusters d found layout.placement → IsLaidOut task layout
laid_out task n closing d found layout same_net same_closing same_design said design_is clusters_are pads_are settled =
    let stands = on_sites task n closing d found layout same_net same_closing same_design said design_is clusters_are pads_are settled.legal in
    let on_pads = subst (λ (x : PadsData). IsSettled task.parts layout.clusters d x layout.placement) (sym pads_are) settled in
    record {
      design = stands.design;
      clusters = stands.clusters;
      pads = stands.pads;
      placed = subst (λ (x : Design). IsSettled task.parts layout.clusters x layout.pads layout.placement) (sym design_is) on_pads;
    }

pub built : (task : Task) (effort : Effort) (layout : Layout) (made : Built) → IsLaidOut task layout → StandsOn task.parts task.name task.closing.rams layout → IsFinished task.parts effort layout made → IsBuilt task effort made
built task effort layout made laid stands finished = record {
  laid = subst (IsLaidOut task) (sym finished.same) laid;
  stands = subst (StandsOn task.parts task.name task.closing.rams) (sym finished.same) stands;
  routed = subst (λ (l : Layout). IsRouted task.parts (plan_in l) effort made.kept.items made.routed) (sym finished.same) finished.routed;
  trees = subst (λ (l : Layout). AreTrees task.parts (plan_in l) (routes_in made.routed)) (sym finished.same) finished.trees;
  written = subst (λ (l : Layout). IsWritten task.parts (plan_in l) l.pads.pullups [] (routes_in made.routed) made.bits) (sym finished.same) finished.written;
}

pub circuit : (n : NetlistData) (parts : Parts) (layout : Layout) (made : Built) → made.layout ≡ layout → RealisesNetlist n layout.pads.ports parts made.bits → RealisesNetlist n made.layout.pads.ports parts made.bits
circuit n parts layout made same is = subst (λ (l : Layout). RealisesNetlist n l.pads.ports parts made.bits) (sym same) is

-- no globals feed each other in a ring, or the decoder was asked
pub no_loop : (parts : Parts) (bits : BitsAt) (extras : List (ℕ × ℕ × ℕ)) → (IsRingless parts → HasNoLoop parts bits extras) → IsRingless parts ⊎ HasNoLoop parts bits extras → HasNoLoop parts bits extras
no_loop parts bits extras by_globals (inl ringless) = by_globals ringless
no_loop parts bits extras by_globals (inr none) = none

-- ---- which answers there are
not_both : {A E : Type 0} (said : Result A E) (value : A) (fault : E) → said ≡ Ok value → said ≡ Err fault → ⊥
not_both said value fault ok err = cc

one_fault : {A E : Type 0} (said : Result A E) (fault other : E) → said ≡ Err fault → said ≡ Err other → fault ≡ other
one_fault said fault other a b = cc

pub pins_good : (task : Task) (layout : Layout) → IsLaidOut task layout → pins_said task ≡ Ok layout.pads
pins_good task layout laid = subst (λ (d : Design). assign_of task.parts task.name task.constraints task.circuit task.closing d ≡ Ok layout.pads) laid.design laid.pads

pub places_good : (task : Task) (layout : Layout) (laid : IsLaidOut task layout) → places_said task ≡ Ok laid.placed.first
places_good task layout laid = subst (λ (d : Design). place_of (stretches_of task.parts) (clusters_of d) d ≡ Ok laid.placed.first) laid.design laid.placed.is_first

pub laid_placeable : (task : Task) (layout : Layout) → IsLaidOut task layout → IsPlaceable task
laid_placeable task layout laid = (layout.pads, laid.placed.first, pins_good task layout laid, places_good task layout laid)

-- what building answers is right
abbrev pub IsAnswer : Task → Effort → Result Built BuildFault → Type 0
IsAnswer task effort (Ok made) = IsBuilt task effort made
IsAnswer task effort (Err fault) = IsFault task effort fault

pub complete : (task : Task) (effort : Effort) (result : Result Built BuildFault) → IsAnswer task effort result → IsComplete task result
complete task effort (Ok made) is = record {
  pins = λ fault e. absurd (not_both (pins_said task) made.layout.pads fault (pins_good task made.layout is.laid) e);
  places = λ found fault said e. absurd (not_both (places_said task) is.laid.placed.first fault (places_good task made.layout is.laid) e);
  tried = λ found first said e. tt;
}
complete task effort (Err (Pins fault)) is = record {
  pins = λ other e. inl (ap (λ (f : PinFault). Err (Pins f)) (one_fault (pins_said task) fault other is e));
  places = λ found other said e. absurd (not_both (pins_said task) found fault said is);
  tried = λ found first said e. not_both (pins_said task) found fault said is;
}
complete task effort (Err (Places fault)) is = record {
  pins = λ other e. absurd (not_both (pins_said task) is.0 other is.1 e);
  places = λ found other said e. inl (ap (λ (f : PlaceFault). Err (Places f)) (one_fault (places_said task) fault other is.2 e));
  tried = λ found first said e. not_both (places_said task) first fault e is.2;
}
complete task effort (Err (Unreachable layout net sink)) is = record {
  pins = λ fault e. absurd (not_both (pins_said task) layout.pads fault (pins_good task layout is.0) e);
  places = λ found fault said e. absurd (not_both (places_said task) is.0.placed.first fault (places_good task layout is.0) e);
  tried = λ found first said e. tt;
}
complete task effort (Err (GaveUp layout nets kept logs tallies)) is = record {
  pins = λ fault e. absurd (not_both (pins_said task) layout.pads fault (pins_good task layout is.0) e);
  places = λ found fault said e. absurd (not_both (places_said task) is.0.placed.first fault (places_good task layout is.0) e);
  tried = λ found first said e. tt;
}
complete task effort (Err (Bits fault)) is = record {
  pins = λ other e. absurd (not_both (pins_said task) is.built.layout.pads other (pins_good task is.built.layout is.is_built.laid) e);
  places = λ found other said e. absurd (not_both (places_said task) is.is_built.laid.placed.first other (places_good task is.built.layout is.is_built.laid) e);
  tried = λ found first said e. tt;
}
complete task effort (Err NoMemory) is = record {
  pins = λ fault e. inr refl;
  places = λ found fault said e. inr refl;
  tried = λ found first said e. tt;
}
