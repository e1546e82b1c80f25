-- From what building answers to what the texts give, or why they are refused.
use Rattle.std.proofs.Common.{◌≡◌, ◌≢◌, ◌⊎◌, ◌∙◌, ℕ, Bool, true, false, Option, Some, None, List, [], length, map, Result, Ok, Err, IfOk, IfErr, inl, inr, refl, sym, ap, subst}
use Rattle.std.specs.Prelude.{◌<◌, option_map}
use Rattle.std.specs.Global.{Vec}
use Rattle.std.proofs.lemmas.List.{length-map}
use Rattle.ice_place.specs.declared.arrangement.Arrangement.{Arrangement}
use Rattle.ice_asc.specs.Grammar.{asc_in}
use Rattle.ice_asc.specs.Text.{asc_text}
use Rattle.ice_bits.specs.Configuration.{Configuration}
use Rattle.ice_bits.specs.Grids.{IsOf}
use Rattle.ice_ram_read.specs.ClosedNetlists.{ClosedNetlistData, closed_netlist_of, without_rams}
use Rattle.ice_blif.specs.declared.fault.BlifFault.{BlifFault}
use Rattle.ice_blif.specs.declared.fault.BlifFault.TheVariants as blif_fault
use Rattle.ice_check.specs.Refusals.{IsFaultOf}
use Rattle.ice_check.specs.Sound.{IsSound}
use Rattle.ice_check.specs.declared.fault.NetFault.{NetFault}
use Rattle.ice_net.specs.Formed.{IsFormed}
use Rattle.ice_net.specs.Meaning.{shows}
use Rattle.ice_net.specs.NetlistData.{NetlistData}
use Rattle.ice_chip.specs.Database.{Parts, PackageRows}
use Rattle.ice_chip.specs.Lookups.{package_of}
use Rattle.ice_chip.specs.declared.fault.ChipFault.{ChipFault}
use Rattle.ice_chip.specs.declared.fault.ChipFault.TheVariants as chip_fault
use Rattle.ice_chip_read.specs.Whole.{chip_says}
use Rattle.ice_chip.specs.declared.rows.Pad.{Pad}
use Rattle.ice_cells.specs.Runs.{design_of}
use Rattle.ice_core.specs.declared.log.RoundLog.{RoundLog}
use Rattle.ice_decode.specs.declared.fault.DecodeFault.{DecodeFault}
use Rattle.ice_negotiate_defs.specs.Trees.{route_of}
use Rattle.ice_pads.specs.Assign.{assign_of, IsGivenAlike}
use Rattle.ice_pads.specs.Closings.{open_closing}
use Rattle.ice_pads.specs.declared.fault.PinFault.{PinFault}
use Rattle.ice_pads.specs.declared.fault.PinFault.TheVariants.{TooManyRams}
use Rattle.ice_pcf.specs.Grammar.{pin_text_says}
use Rattle.ice_pcf.specs.declared.constraint.Constraint.{Constraint}
use Rattle.ice_pcf.specs.declared.fault.PcfFault.{PcfFault}
use Rattle.ice_pcf.specs.declared.fault.PcfFault.TheVariants as pcf_fault
use Rattle.ice_place.specs.declared.fault.PlaceFault.{PlaceFault}
use Rattle.ice_report.specs.PinReport.{pin_text}
use Rattle.ice_report.specs.RouteReport.{route_text}
use Rattle.ice_flow_prepare.specs.Prepared.{most_cells, prepared_on}
use Rattle.ice_flow_prepare.specs.PreparedLaws.{PreparedAreGivenAlike, PreparedPinsStay, PreparedReportsStay, PreparedShowTheSame}
use Rattle.ice_flow_frame.specs.Told.{Told, telling, told_in}
use Rattle.ice_negotiate_defs.specs.declared.kept.Kept.{Kept}
use Rattle.ice_words.specs.Grips.{Shut}
use Rattle.ice_emit_defs.specs.Realised.{port_levels}
use Rattle.ice_flow_build.specs.Answers.{IsBuilt, IsFault, IsGivenUp, net_count, pins_said, places_said}
use Rattle.ice_flow_build.specs.Laid.{Task, IsLaidOut, arrangement_in, plan_in, task_of}
use Rattle.ice_flow_build.specs.Shown.{RealisesNetlist}
use Rattle.ice_flow_build.specs.declared.answer.Built.{Built}
use Rattle.ice_flow_build.specs.declared.answer.BuildFault.{BuildFault}
use Rattle.ice_flow_build.specs.declared.answer.BuildFault.TheVariants as build
use Rattle.ice_flow_build.specs.declared.answer.Layout.{Layout}
use Rattle.ice_flow_build.proofs.Answering.{pins_good, places_good}
use Rattle.ice_flow_build_frame.specs.Causes.{IsCauseOf}
use Rattle.ice_flow_frame.specs.declared.cause.Cause.{Cause}
use Rattle.ice_flow_frame.specs.declared.cause.Cause.TheVariants.{BadBlif, BadPcf, BadChip, BadNet, BadPin, Overfull, Unreachable, GaveUp, BadBits, NoMemory}
use Rattle.ice_flow_frame.specs.declared.giving.Made.{Made}
use Rattle.ice_flow_frame.specs.declared.giving.Refused.{Refused}
use Rattle.ice_flow_frame.specs.Commands.{IsRefusal}
use Rattle.ice_flow_frame.specs.Ends.{text_of}
use Rattle.ice_flow_frame.specs.Texts.{text_at}
use Rattle.ice_flow_frame.specs.Refusals.{IsBlifRefusal, IsPcfRefusal, IsChipRefusal, IsNetRefusal, IsPinRefusal, IsPlaceRefusal, IsBitsRefusal}
use Rattle.ice_flow_frame.proofs.Standings.{at_fault, behind, blif_refused, pcf_refused, chip_refused, net_refused, pin_refused, place_refused, bits_refused}
use Rattle.ice_flow_build_cmd.specs.Asked.{Build, IsAsked, IsTaskRead, effort_of}
use Rattle.ice_flow_build_cmd.specs.BuildRows.{IsRead}
use Rattle.ice_flow_build_cmd.specs.Ending.{IsBuildRefusal, parting_text, report_of}
use Rattle.ice_flow_build_cmd.specs.Made.{IsMadeByBuild}
use Rattle.ice_flow_build_cmd.specs.Parting.{TellsOf, HasReport, IsOfNoRounds, IsReadRefusal, IsRefusedWith}
use Rattle.ice_flow_build_cmd.specs.Rams.{rams_said}
use Rattle.ice_flow_build_cmd.specs.Reports.{pins_text, texts_of}
use Rattle.ice_flow_build_cmd.specs.Standing.{IsEnd, PlacesStand, TaskStands, NetStands, BlifStands, PcfStands, StandsForBuild}
use Rattle.ice_flow_build_cmd.proofs.Standing.{read_so, net_so, asked_so, pins_so, end_so}
use Rattle.ice_flow_build_cmd.proofs.Unclosed.{some_rams, rams_known}

-- ---- causes that are told without a report
of_no_rounds : (cause this : Cause) → cause ≡ this → IsOfNoRounds this → IsOfNoRounds cause
of_no_rounds cause this e is = subst IsOfNoRounds (sym e) is

pin_alone : (fault : PinFault) (cause : Cause) → IsPinRefusal fault cause → IsOfNoRounds cause
pin_alone fault cause (inl memory) = of_no_rounds cause NoMemory memory.0 (λ never. never)
pin_alone fault cause (inr told) = of_no_rounds cause (BadPin fault) told.0 (λ never. never)

place_alone : (fault : PlaceFault) (cause : Cause) → IsPlaceRefusal fault cause → IsOfNoRounds cause
place_alone fault cause (inl memory) = of_no_rounds cause NoMemory memory.0 (λ never. never)
place_alone fault cause (inr told) = of_no_rounds cause (Overfull fault) told.0 (λ never. never)

bits_alone : (fault : DecodeFault) (cause : Cause) → IsBitsRefusal fault cause → IsOfNoRounds cause
bits_alone fault cause (inl memory) = of_no_rounds cause NoMemory memory.0 (λ never. never)
bits_alone fault cause (inr told) = of_no_rounds cause (BadBits fault) told.0 (λ never. never)

net_alone : (fault : NetFault) (cause : Cause) → IsNetRefusal fault cause → IsOfNoRounds cause
net_alone fault cause (inl memory) = of_no_rounds cause NoMemory memory.0 (λ never. never)
net_alone fault cause (inr told) = of_no_rounds cause (BadNet fault) told.0 (λ never. never)

blif_alone : (fault : BlifFault) (cause : Cause) → IsBlifRefusal fault cause → IsOfNoRounds cause
blif_alone fault cause (inl memory) = of_no_rounds cause NoMemory memory.0 (λ never. never)
blif_alone fault cause (inr told) = of_no_rounds cause (BadBlif fault) told.0 (λ never. never)

pcf_alone : (fault : PcfFault) (cause : Cause) → IsPcfRefusal fault cause → IsOfNoRounds cause
pcf_alone fault cause (inl memory) = of_no_rounds cause NoMemory memory.0 (λ never. never)
pcf_alone fault cause (inr told) = of_no_rounds cause (BadPcf fault) told.0 (λ never. never)

chip_alone : (fault : ChipFault) (cause : Cause) → IsChipRefusal fault cause → IsOfNoRounds cause
chip_alone fault cause (inl memory) = of_no_rounds cause NoMemory memory.0 (λ never. never)
chip_alone fault cause (inr told) = of_no_rounds cause (BadChip fault) told.0 (λ never. never)

-- such a refusal without a report
refused_untold : (b : Build) (t : List (List ℕ)) (refused : Refused) → IsRefusal (StandsForBuild b.package_name (effort_of b) t) refused.cause → IsOfNoRounds refused.cause → text_of refused.report ≡ None
    → IsRefusedWith b t refused
refused_untold b t refused is alone none = record {
  refusal = is;
  report = subst (λ (o : Option (List ℕ)). HasReport b t refused.cause o) (sym none) (λ gave. absurd (alone gave));
}

refused_alone : (b : Build) (t : List (List ℕ)) (refused : Refused) → IsRefusal (StandsForBuild b.package_name (effort_of b) t) refused.cause → IsOfNoRounds refused.cause → refused.report ≡ None
    → IsRefusedWith b t refused
refused_alone b t refused is alone none = refused_untold b t refused is alone (ap (λ (o : Option (Vec ℕ)). text_of o) none)

refused_by : (b : Build) (t : List (List ℕ)) (this : Cause) (refused : Refused) → IsRefusal (StandsForBuild b.package_name (effort_of b) t) this → IsOfNoRounds this → refused.cause ≡ this → refused.report ≡ None
    → IsRefusedWith b t refused
refused_by b t this refused is alone e none =
    refused_alone b t refused (subst (IsRefusal (StandsForBuild b.package_name (effort_of b) t)) (sym e) is) (of_no_rounds refused.cause this e alone) none

pub read_refused : (b : Build) (t : List (List ℕ)) (cause : Cause) (refused : Refused) → IsReadRefusal b t cause → refused.cause ≡ cause → refused.report ≡ None → IsRefusedWith b t refused
read_refused b t cause refused is e none = refused_by b t cause refused is.0 is.1 e none

pub refused_for_memory : (b : Build) (t : List (List ℕ)) (refused : Refused) → refused.cause ≡ NoMemory → refused.report ≡ None → IsRefusedWith b t refused
refused_for_memory b t refused e none = refused_by b t NoMemory refused tt (λ never. never) e none

-- ---- what is read
pub chip_unread : (b : Build) (t : List (List ℕ)) (fault : ChipFault) (cause : Cause) → (fault ≢ chip_fault.NoMemory → chip_says (text_at t 1) ≡ Err fault) → IsChipRefusal fault cause → IsReadRefusal b t cause
chip_unread b t fault cause said is =
    let name = b.package_name in
    let effort = effort_of b in (
      chip_refused (StandsForBuild name effort t) fault cause
          (λ known. at_fault (chip_says (text_at t 1)) BadChip (PcfStands name effort (text_at t 2) (text_at t 3)) fault (said known)) is,
      chip_alone fault cause is,
    )

pub pcf_unread : (b : Build) (t : List (List ℕ)) (parts : Parts) (fault : PcfFault) (cause : Cause) → chip_says (text_at t 1) ≡ Ok parts
    → (fault ≢ pcf_fault.NoMemory → pin_text_says (text_at t 2) ≡ Err fault) → IsPcfRefusal fault cause → IsReadRefusal b t cause
pcf_unread b t parts fault cause chip said is =
    let name = b.package_name in
    let effort = effort_of b in (
      pcf_refused (StandsForBuild name effort t) fault cause
          (λ known. behind (chip_says (text_at t 1)) BadChip (PcfStands name effort (text_at t 2) (text_at t 3)) parts (BadPcf fault) chip
          (at_fault (pin_text_says (text_at t 2)) BadPcf (BlifStands name effort (text_at t 3) parts) fault (said known))) is,
      pcf_alone fault cause is,
    )

pub blif_unread : (b : Build) (t : List (List ℕ)) (parts : Parts) (constraints : List Constraint) (fault : BlifFault) (cause : Cause) → IsRead t parts constraints
    → (fault ≢ blif_fault.NoMemory → closed_netlist_of (text_at t 3) ≡ Err fault) → IsBlifRefusal fault cause → IsReadRefusal b t cause
blif_unread b t parts constraints fault cause read said is =
    let name = b.package_name in
    let effort = effort_of b in (
      blif_refused (StandsForBuild name effort t) fault cause
          (λ known. read_so name effort t parts constraints (BadBlif fault) read
          (at_fault (closed_netlist_of (text_at t 3)) BadBlif (NetStands name effort parts constraints) fault (said known))) is,
      blif_alone fault cause is,
    )

pub net_unread : (b : Build) (t : List (List ℕ)) (parts : Parts) (constraints : List Constraint) (circuit : ClosedNetlistData) (fault : NetFault) (cause : Cause) → IsRead t parts constraints
    → closed_netlist_of (text_at t 3) ≡ Ok circuit → IsFaultOf circuit.netlist fault → IsNetRefusal fault cause → IsReadRefusal b t cause
net_unread b t parts constraints circuit fault cause read says bad is =
    let name = b.package_name in
    let effort = effort_of b in (
      net_refused (StandsForBuild name effort t) fault cause
          (λ known. net_so name effort t parts constraints circuit (BadNet fault) read says (inl (fault, refl, bad, known))) is,
      net_alone fault cause is,
    )

-- no RAM can be built yet
pub rams_unread : (b : Build) (t : List (List ℕ)) (parts : Parts) (constraints : List Constraint) (circuit : ClosedNetlistData) (need : ℕ) (cause : Cause) → IsRead t parts constraints
    → closed_netlist_of (text_at t 3) ≡ Ok circuit → IsSound circuit.netlist → length circuit.rams ≡ need → 0 < need → (cause ≡ NoMemory) ⊎ (cause ≡ BadPin (TooManyRams need 0)) → IsReadRefusal b t cause
rams_unread b t parts constraints circuit need cause read says sound long some (inl memory) =
    (subst (IsRefusal (StandsForBuild b.package_name (effort_of b) t)) (sym memory) tt, of_no_rounds cause NoMemory memory (λ never. never))
rams_unread b t parts constraints circuit need cause read says sound long some (inr told) =
    let name = b.package_name in
    let effort = effort_of b in
    let fault = TooManyRams need 0 in
    let is : IsPinRefusal fault cause = inr (told, rams_known need 0) in (
      pin_refused (StandsForBuild name effort t) fault cause
          (λ known. net_so name effort t parts constraints circuit (BadPin fault) read says
          (inr (sound, at_fault (rams_said circuit) BadPin (λ netlist. TaskStands (task_of parts name constraints (prepared_on parts netlist [])) effort) fault (some_rams circuit need long some)))) is,
      pin_alone fault cause is,
    )

-- a netlist that was read, as it is once it is checked, and prepared
pub task_read : (name : List ℕ) (t : List (List ℕ)) (parts : Parts) (constraints : List Constraint) (sound prepared : NetlistData) → IsRead t parts constraints
    → closed_netlist_of (text_at t 3) ≡ Ok (without_rams sound) → IsSound sound → IsFormed sound → length sound.cells < most_cells → prepared ≡ prepared_on parts sound []
    → IsTaskRead name t (task_of parts name constraints prepared)
task_read name t parts constraints sound prepared read says is_sound formed room made = record {
  is_asked = record {
    circuit = sound;
    is_chip = read.is_chip;
    is_name = refl;
    are_constraints = read.are_constraints;
    is_circuit = says;
    is_sound = is_sound;
    is_prepared = made;
    is_open = ap open_closing made;
  };
  is_formed = formed;
  has_room = room;
}

-- ---- rounds that gave up
pub not_none : (o : Option (List ℕ)) (name : List ℕ) → o ≡ Some name → o ≡ None → ⊥
not_none o name e none = cc

has_report : (b : Build) (t : List (List ℕ)) (arrangement : Arrangement) (logs : Vec RoundLog) (tallies : Vec Shut) (kept : Vec Kept) (report : List ℕ) (asked : Option (List ℕ)) → b.report ≡ asked
    → TellsOf b t (GaveUp arrangement logs tallies kept) report → HasReport b t (GaveUp arrangement logs tallies kept) (option_map (λ name. report) asked)
has_report b t arrangement logs tallies kept report None e tells = λ gave. e
has_report b t arrangement logs tallies kept report (Some name) e tells = (tt, not_none b.report name e, tells)

-- the report tells of the rounds that gave up on the placed design
tells_of : (b : Build) (t : List (List ℕ)) (task : Task) (layout : Layout) (nets : ℕ) (kept : Vec Kept) (logs : Vec RoundLog) (tallies : Vec Shut) → IsAsked b.package_name t task → IsLaidOut task layout
    → IsGivenUp task.parts (plan_in layout) (effort_of b) kept.items logs.items tallies.items → nets ≡ net_count task.parts (plan_in layout)
    → TellsOf b t (GaveUp (arrangement_in layout) logs tallies kept) (route_text (length layout.design.cells) (length layout.clusters.list) nets logs.items false)
tells_of b t task layout nets kept logs tallies asked laid given counted = record {
  task = task;
  is_asked = asked;
  is_so = (layout, laid, refl, (given, ap (λ n. route_text (length layout.design.cells) (length layout.clusters.list) n logs.items false) counted));
}

refused_given_up : (b : Build) (t : List (List ℕ)) (task : Task) (layout : Layout) (nets : ℕ) (kept : Vec Kept) (logs : Vec RoundLog) (tallies : Vec Shut) (refused : Refused) → IsAsked b.package_name t task
    → IsFault task (effort_of b) (build.GaveUp layout nets kept logs tallies) → refused.cause ≡ GaveUp (arrangement_in layout) logs tallies kept
    → text_of refused.report ≡ parting_text b layout nets logs.items → IsRefusedWith b t refused
refused_given_up b t task layout nets kept logs tallies refused asked (laid, given, counted) told reported =
    let on = GaveUp (arrangement_in layout) logs tallies kept in
    let stands = end_so b.package_name (effort_of b) t task layout.pads laid.placed.first on asked (pins_good task layout laid) (places_good task layout laid) (layout, laid, refl, given) in
    let tells = has_report b t (arrangement_in layout) logs tallies kept (route_text (length layout.design.cells) (length layout.clusters.list) nets logs.items false) b.report refl
    (tells_of b t task layout nets kept logs tallies asked laid given counted) in
    record {
      refusal = subst (IsRefusal (StandsForBuild b.package_name (effort_of b) t)) (sym told) (stands, tt);
      report = subst (λ (c : Cause). HasReport b t c (text_of refused.report)) (sym told) (subst (HasReport b t on) (sym reported) tells);
    }

-- ---- why nothing is built
refused_told : (b : Build) (t : List (List ℕ)) (task : Task) (fault : BuildFault) (refused : Refused) → IsAsked b.package_name t task → IsFault task (effort_of b) fault → IsCauseOf fault refused.cause
    → text_of refused.report ≡ report_of b fault → IsRefusedWith b t refused
refused_told b t task (build.Pins fault) r asked said is none =
    let name = b.package_name in
    let effort = effort_of b in
    refused_untold b t r (pin_refused (StandsForBuild name effort t) fault r.cause
    (λ known. asked_so name effort t task (BadPin fault) asked (at_fault (pins_said task) BadPin (λ pads. PlacesStand task effort) fault said)) is) (pin_alone fault r.cause is) none
refused_told b t task (build.Places fault) r asked (pads, pins, said) is none =
    let name = b.package_name in
    let effort = effort_of b in
    refused_untold b t r (place_refused (StandsForBuild name effort t) fault r.cause
    (λ known. pins_so name effort t task pads (Overfull fault) asked pins (at_fault (places_said task) Overfull (λ first. IsEnd task effort) fault said)) is) (place_alone fault r.cause is) none
refused_told b t task (build.Unreachable layout net sink) r asked (laid, stuck) is none =
    let on = Unreachable (arrangement_in layout) net sink in
    let stands = end_so b.package_name (effort_of b) t task layout.pads laid.placed.first on asked (pins_good task layout laid) (places_good task layout laid) (layout, laid, refl, stuck) in
    refused_untold b t r (subst (IsRefusal (StandsForBuild b.package_name (effort_of b) t)) (sym is) (stands, tt)) (of_no_rounds r.cause on is (λ never. never)) none
refused_told b t task (build.GaveUp layout nets kept logs tallies) r asked fault is report = refused_given_up b t task layout nets kept logs tallies r asked fault is report
refused_told b t task (build.Bits fault) r asked bits is none =
    let name = b.package_name in
    let effort = effort_of b in
    let layout = bits.built.layout in
    let laid = bits.is_built.laid in
    refused_untold b t r (bits_refused (StandsForBuild name effort t) fault r.cause
    (λ known. end_so name effort t task layout.pads laid.placed.first (BadBits fault) asked (pins_good task layout laid) (places_good task layout laid) bits) is) (bits_alone fault r.cause is) none
refused_told b t task build.NoMemory r asked free is none =
    refused_untold b t r (subst (IsRefusal (StandsForBuild b.package_name (effort_of b) t)) (sym is) tt) (of_no_rounds r.cause NoMemory is (λ never. never)) none

pub refused : (b : Build) (t : List (List ℕ)) (task : Task) (fault : BuildFault) (refused : Refused) → IsAsked b.package_name t task → IsFault task (effort_of b) fault → IsBuildRefusal b fault refused
    → IsRefusedWith b t refused
refused b t task fault r asked said (inl memory) = refused_for_memory b t r memory.0 memory.1
refused b t task fault r asked said (inr told) = refused_told b t task fault r asked said told.0 told.1

-- ---- what is made
-- what is shown of a netlist is shown of one with as many ports that shows the same
circuit_as : (m n : NetlistData) (ports : List Pad) (parts : Parts) (k : Configuration) → length m.ports ≡ length n.ports → ((levels : List (List Bool)) → shows m levels ≡ shows n levels)
    → RealisesNetlist m ports parts k → RealisesNetlist n ports parts k
circuit_as m n ports parts k long same is = record {
  form = is.form;
  plain = is.plain;
  shows_same = λ bonded.
      let s = is.shows_same bonded in
      record {
        pad_each = s.pad_each ∙ long;
        at_ports = λ steps. s.at_ports steps ∙ same (map (port_levels bonded ports) steps);
        elsewhere = s.elsewhere;
      };
}

-- what is left as it is where a netlist is prepared
pub record StaysSo : Type 0 where
  pub pins : PreparedPinsStay
  pub reports : PreparedReportsStay
  pub shows : PreparedShowTheSame
  pub given : PreparedAreGivenAlike

module _ (b : Build) (t : List (List ℕ)) (task : Task) (built : Built) (asked : IsAsked b.package_name t task) (formed : IsFormed asked.circuit) (room : length asked.circuit.cells < most_cells) (stays : StaysSo) (is : IsBuilt task (effort_of b) built) where
  pads_are : assign_of task.parts b.package_name task.constraints asked.circuit task.closing (design_of task.circuit) ≡ Ok built.layout.pads
  pads_are =
      sym (stays.pins task.parts asked.circuit [] b.package_name task.constraints task.closing (design_of task.circuit) formed)
      ∙ ap (λ (n : NetlistData). assign_of task.parts b.package_name task.constraints n task.closing (design_of task.circuit)) (sym asked.is_prepared)
      ∙ subst (λ (name : List ℕ). assign_of task.parts name task.constraints task.circuit task.closing (design_of task.circuit) ≡ Ok built.layout.pads) asked.is_name (pins_good task built.layout is.laid)

  -- and so are those by the design of the netlist read
  given_read : IsGivenAlike task.parts b.package_name task.constraints asked.circuit task.closing built.layout.pads
  given_read =
      stays.given task.parts asked.circuit [] b.package_name task.constraints task.closing built.layout.pads formed room
      (subst (λ (n : NetlistData). assign_of task.parts b.package_name task.constraints asked.circuit task.closing (design_of n) ≡ Ok built.layout.pads) asked.is_prepared pads_are)

  shown_read : RealisesNetlist task.circuit built.layout.pads.ports task.parts built.bits → RealisesNetlist asked.circuit built.layout.pads.ports task.parts built.bits
  shown_read shown =
      circuit_as (prepared_on task.parts asked.circuit []) asked.circuit built.layout.pads.ports task.parts built.bits refl
      (stays.shows task.parts asked.circuit [] formed room)
      (subst (λ (n : NetlistData). RealisesNetlist n built.layout.pads.ports task.parts built.bits) asked.is_prepared shown)

  -- the package is there
  named : package_of task.parts b.package_name ≡ Some is.stands.0
  named = subst (λ (name : List ℕ). package_of task.parts name ≡ Some is.stands.0) asked.is_name is.stands.1

  -- the report on the pins tells of the netlist read
  pins_told : pins_text (package_of task.parts b.package_name) task.circuit built.layout.pads.ports ≡ pin_text asked.circuit is.stands.0 built.layout.pads.ports
  pins_told =
      ap (λ (bonded : Option PackageRows). pins_text bonded task.circuit built.layout.pads.ports) named
      ∙ ap (λ (n : NetlistData). pin_text n is.stands.0 built.layout.pads.ports) asked.is_prepared
      ∙ stays.reports task.parts asked.circuit [] is.stands.0 built.layout.pads.ports formed

  -- each net has its tree
  trees_told : length built.routed.trees.items ≡ net_count task.parts (plan_in built.layout)
  trees_told = sym (length-map built.routed.trees.items route_of) ∙ is.trees.count

  -- what is made of what was built
  abbrev texts_here : List ℕ → ℕ → List (List ℕ)
  texts_here pins nets =
      texts_of b (asc_text task.parts built.bits) pins
      (route_text (length built.layout.design.cells) (length built.layout.clusters.list) nets built.routed.logs.items true)

  made_is : (made : List (List ℕ)) (on : Arrangement) (counts : Told) → RealisesNetlist task.circuit built.layout.pads.ports task.parts built.bits
      → made ≡ texts_here (pins_text (package_of task.parts b.package_name) task.circuit built.layout.pads.ports) (length built.routed.trees.items) → on ≡ arrangement_in built.layout
      → counts ≡ telling built.routed.tallies built.kept → (IsOf task.parts built.bits → asc_in task.parts (asc_text task.parts built.bits) ≡ Ok built.bits) → IsMadeByBuild b t made on counts
  made_is made on counts shown texts here tallied read_back = record {
    task = task;
    built = built;
    bonded = is.stands.0;
    is_asked = asked;
    is_built = is;
    is_package = named;
    is_arrangement = here;
    is_told = tallied;
    are_texts = texts ∙ ap (λ (pins : List ℕ). texts_here pins (length built.routed.trees.items)) pins_told
        ∙ ap (λ (nets : ℕ). texts_here (pin_text asked.circuit is.stands.0 built.layout.pads.ports) nets) trees_told;
    is_read_back = read_back shown.form;
    are_pads = given_read;
    is_shown = shown_read shown;
  }

  pub made_of_built : (result : Result Made Refused) → RealisesNetlist task.circuit built.layout.pads.ports task.parts built.bits
      → IfOk result (λ made. made.texts ≡ texts_here (pins_text (package_of task.parts b.package_name) task.circuit built.layout.pads.ports) (length built.routed.trees.items))
      → IfOk result (λ made. made.arrangement ≡ arrangement_in built.layout) → IfOk result (λ made. told_in made ≡ telling built.routed.tallies built.kept)
      → IfOk result (λ made. IsOf task.parts built.bits → asc_in task.parts (asc_text task.parts built.bits) ≡ Ok built.bits)
      → IfOk result (λ made. IsMadeByBuild b t made.texts made.arrangement (told_in made))
  made_of_built (Ok made) shown texts here tallied read_back = made_is made.texts made.arrangement (told_in made) shown texts here tallied read_back
  made_of_built (Err r) shown texts here tallied read_back = tt

-- there was no memory for what is made
pub made_refused : (b : Build) (t : List (List ℕ)) (result : Result Made Refused) → IfErr result (λ refused. refused.cause ≡ NoMemory) → IfErr result (λ refused. refused.report ≡ None)
    → IfErr result (IsRefusedWith b t)
made_refused b t (Ok made) memory none = tt
made_refused b t (Err r) memory none = refused_for_memory b t r memory none
