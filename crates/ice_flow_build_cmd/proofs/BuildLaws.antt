-- When each answer of `build` comes, from how its texts stand.
use Rattle.std.proofs.Common.{◌≡◌, ◌≢◌, ◌∙◌, ℕ, true, List, [], ◌∷◌, Some, Result, Err, inl, inr, refl, sym, ap, subst}
use Rattle.std.specs.Global.{Vec}
use Rattle.ice_base.specs.declared.number.NetNo.{NetNo}
use Rattle.ice_place.specs.declared.arrangement.Arrangement.{Arrangement}
use Rattle.ice_base.specs.declared.number.WireNo.{WireNo}
use Rattle.ice_asc.specs.Text.{asc_text}
use Rattle.ice_desk.specs.Desk.{Meaning}
use Rattle.ice_desk.specs.Changes.{SameButReading}
use Rattle.ice_ram_read.specs.ClosedNetlists.{ClosedNetlistData, closed_netlist_of}
use Rattle.ice_check.proofs.Faulty.{faulty}
use Rattle.ice_check.specs.Refusals.{IsFaultOf}
use Rattle.ice_check.specs.Sound.{IsSound}
use Rattle.ice_check.specs.declared.fault.NetFault.{NetFault}
use Rattle.ice_check.specs.declared.fault.NetFault.TheVariants as net_fault
use Rattle.ice_chip.specs.Database.{Parts}
use Rattle.ice_chip_read.specs.Whole.{chip_says}
use Rattle.ice_core.specs.declared.log.RoundLog.{RoundLog}
use Rattle.ice_pcf.specs.Grammar.{pin_text_says}
use Rattle.ice_pcf.specs.declared.constraint.Constraint.{Constraint}
use Rattle.ice_pads.specs.declared.fault.PinFault.{PinFault}
use Rattle.ice_flow_prepare.specs.Prepared.{prepared_on}
use Rattle.ice_report.specs.PinReport.{pin_text}
use Rattle.ice_flow_build.specs.declared.answer.Effort.{Effort}
use Rattle.ice_flow_frame.specs.Told.{Told as ToldOf, telling}
use Rattle.ice_negotiate_defs.specs.declared.kept.Kept.{Kept}
use Rattle.ice_words.specs.Grips.{Shut}
use Rattle.ice_flow_build.specs.Answers.{pins_said, places_said, HasBadBits, HasPlaceFault, IsPlaceable}
use Rattle.ice_flow_build.specs.Laid.{Task, task_of}
use Rattle.ice_flow_build.proofs.Answering.{pins_good, places_good, laid_placeable}
use Rattle.ice_flow_frame.specs.declared.cause.Cause.{Cause}
use Rattle.ice_flow_frame.specs.declared.cause.Cause.TheVariants.{Good, Usage, BadBlif, BadPcf, BadChip, BadNet, BadPin, Overfull, Unreachable, GaveUp, BadBits}
use Rattle.ice_flow_frame.specs.declared.cause.Done.{Done}
use Rattle.ice_flow_frame.specs.declared.cause.FileRole.TheVariants.{Report}
use Rattle.ice_flow_frame.specs.declared.giving.Made.{Made}
use Rattle.ice_flow_frame.specs.declared.giving.Refused.{Refused}
use Rattle.ice_flow_frame.specs.Causes.{status_of}
use Rattle.ice_flow_frame.specs.Commands.{IsDone, IsTrueOf}
use Rattle.ice_flow_frame.specs.Ends.{IsEndInFiles, IsMadeOf, IsEndOf, IsReported, unreported}
use Rattle.ice_flow_frame.specs.Reading.{File, TellsLong}
use Rattle.ice_flow_frame.specs.Tells.{TellsNetFault, IsAbout, TellsGood, TellsUnreachable, TellsGivenUp}
use Rattle.ice_flow_frame.specs.Rows.{IsHeld, GoodRow, IsParted, PartingRow}
use Rattle.ice_flow_frame.specs.Texts.{OfTexts, HoldEach, HoldsTexts, text_at}
use Rattle.ice_flow_frame.specs.Writing.{HoldFrom}
use Rattle.ice_flow_frame.proofs.CommandRows.{Lawful, comes, good_row, read_fault_row, write_fault_row, too_long_row}
use Rattle.ice_flow_frame.proofs.Ended.{end_is_in_files}
use Rattle.ice_flow_frame.proofs.Standings.{fault_alone, of_done}
use Rattle.ice_flow_frame.proofs.TextFacts.{at_files, of_weaker, holds_read}
use Rattle.ice_flow_build_cmd.specs.Asked.{Build, files_of, file_asked, outputs_of, parting_of, IsAsked, Asks, effort_of}
use Rattle.ice_flow_build_cmd.specs.BuildRows.{ChipRow, PcfRow, HasPcfFault, BlifRow, HasBlifFault, SaysNetlist, NetRow, HasPinFault, PinRow, PlaceRow, IsTried, TriedRow, BuiltRow, UnreachableRow, GaveUpRow, BitsRow, IsWritten, WrittenRow, HoldsReport, ReportedRow, IsBuildAnswer}
use Rattle.ice_flow_build_cmd.specs.Command.{build_files}
use Rattle.ice_flow_build_cmd.specs.Former.{CausesHaveFormerRows}
use Rattle.ice_flow_build_cmd.specs.Headline.{HeadlineRow}
use Rattle.ice_flow_build_cmd.specs.Made.{IsMadeByBuild, IsBuiltOn, IsToldOn, IsStuckOn, IsGivenUpOn}
use Rattle.ice_flow_build_cmd.specs.Rams.{rams_said}
use Rattle.ice_flow_build_cmd.specs.Reports.{routes_text}
use Rattle.ice_flow_build_cmd.specs.Standing.{IsEnd, PlacesStand, TaskStands, NetStands, BlifStands, PcfStands, StandsForBuild}
use Rattle.ice_flow_build_cmd.proofs.Excluding.{built_not_stuck, built_not_given_up, given_up_not_stuck_on, stuck_on_one}
use Rattle.ice_flow_build_cmd.proofs.Holding.{held_bits, held_pins, held_report}
use Rattle.ice_flow_build_cmd.proofs.Shown.{made_shown, made_shown_exactly}
use Rattle.ice_flow_build_cmd.proofs.Standing.{pcf_stands, blif_stands, net_stands, task_stands, places_stand, end_stands, end_so, one_task}
use Rattle.ice_flow_frame.proofs.Tells.{of_about}
use Rattle.ice_flow_chip_frame.specs.Standing.{HasChipFault}
use Rattle.ice_flow_build_cmd.proofs.Telling.{of_end, of_tried, Told, told}

done_end : (task : Task) (effort : Effort) (cause : Cause) → IsDone cause → IsEnd task effort cause
done_end task effort cause done = of_done (IsEnd task effort) (λ arrangement tallies kept. tt) (λ role put. tt) cause done

pub lawful : (b : Build) → Lawful (build_files b)
lawful b = record {
  done = λ t made on counts cause g done.
      let layout = g.built.layout in
      let laid = g.is_built.laid in
      end_so b.package_name (effort_of b) t g.task layout.pads laid.placed.first cause g.is_asked (pins_good g.task layout laid) (places_good g.task layout laid) (done_end g.task (effort_of b) cause done);
  never = λ t m. told b.package_name (effort_of b) t Usage m;
}

-- what a refusal by this cause tells of the texts that were read
told_of : (b : Build) (old new : Meaning) (cause : Cause) (fault : Cause) (AreSo : List (List ℕ) → Type 0) → IsTrueOf (build_files b) old new cause → cause ≡ fault
    → (IsTrueOf (build_files b) old new fault → OfTexts (files_of b) old (λ t. StandsForBuild b.package_name (effort_of b) t fault))
    → ((t : List (List ℕ)) → Told b.package_name (effort_of b) t fault → AreSo t) → OfTexts (files_of b) old AreSo
told_of b old new cause fault AreSo is e stands so =
    of_weaker (files_of b) old (λ t. StandsForBuild b.package_name (effort_of b) t fault) AreSo (λ t m. so t (told b.package_name (effort_of b) t fault m))
    (stands (subst (λ (x : Cause). IsTrueOf (build_files b) old new x) e is))

-- ---- the texts
chip_row : (b : Build) (old new : Meaning) (cause : Cause) → IsTrueOf (build_files b) old new cause → ChipRow b old cause
chip_row b old new cause is fault =
    comes (build_files b) old new cause (λ c. c ≡ BadChip fault) (HasChipFault fault) (lawful b) is
    (λ e. told_of b old new cause (BadChip fault) (HasChipFault fault) is e (λ i. i.0) (λ t h. h))
    (λ t h m. fault_alone (chip_says (text_at t 1)) BadChip (PcfStands b.package_name (effort_of b) (text_at t 2) (text_at t 3)) fault cause h m)

pcf_row : (b : Build) (old new : Meaning) (cause : Cause) → IsTrueOf (build_files b) old new cause → PcfRow b old cause
pcf_row b old new cause is fault =
    comes (build_files b) old new cause (λ c. c ≡ BadPcf fault) (HasPcfFault fault) (lawful b) is
    (λ e. told_of b old new cause (BadPcf fault) (HasPcfFault fault) is e (λ i. i.0) (λ t h. h))
    (λ t h m. fault_alone (pin_text_says (text_at t 2)) BadPcf (BlifStands b.package_name (effort_of b) (text_at t 3) h.0) fault cause h.2
    (pcf_stands b.package_name (effort_of b) t h.0 cause h.1 m))

blif_row : (b : Build) (old new : Meaning) (cause : Cause) → IsTrueOf (build_files b) old new cause → BlifRow b old cause
blif_row b old new cause is fault =
    comes (build_files b) old new cause (λ c. c ≡ BadBlif fault) (HasBlifFault fault) (lawful b) is
    (λ e. told_of b old new cause (BadBlif fault) (HasBlifFault fault) is e (λ i. i.0) (λ t h. h))
    (λ t h m. fault_alone (closed_netlist_of (text_at t 3)) BadBlif (NetStands b.package_name (effort_of b) h.0 h.1) fault cause h.3
    (blif_stands b.package_name (effort_of b) t h.0 h.1 cause h.2 m))

-- ---- the netlist
unsound_alone : (name : List ℕ) (effort : Effort) (parts : Parts) (constraints : List Constraint) (circuit : ClosedNetlistData) (cause : Cause) → (IsSound circuit.netlist → ⊥)
    → NetStands name effort parts constraints circuit cause → TellsNetFault cause
unsound_alone name effort parts constraints circuit cause unsound (inl bad) = (bad.0, bad.1)
unsound_alone name effort parts constraints circuit cause unsound (inr good) = absurd (unsound good.0)

abbrev IsFaulty : NetFault → ClosedNetlistData → Type 0
IsFaulty fault circuit = IsFaultOf circuit.netlist fault × (fault ≢ net_fault.NoMemory)

netlist_weaker : (P Q : ClosedNetlistData → Type 0) (t : List (List ℕ)) → ((circuit : ClosedNetlistData) → P circuit → Q circuit) → SaysNetlist P t → SaysNetlist Q t
netlist_weaker P Q t weaker h = record { parts = h.parts; constraints = h.constraints; circuit = h.circuit; is_read = h.is_read; is_circuit = h.is_circuit; is_so = weaker h.circuit h.is_so }

net_row : (b : Build) (old new : Meaning) (cause : Cause) → IsTrueOf (build_files b) old new cause → NetRow b old cause
net_row b old new cause is = record {
  comes = comes (build_files b) old new cause TellsNetFault (SaysNetlist (λ circuit. IsSound circuit.netlist → ⊥)) (lawful b) is
      (λ f. told_of b old new cause (BadNet f.0) (SaysNetlist (λ circuit. IsSound circuit.netlist → ⊥)) is f.1 (λ i. i.0)
      (λ t h. netlist_weaker (IsFaulty f.0) (λ circuit. IsSound circuit.netlist → ⊥) t (λ circuit bad. faulty circuit.netlist f.0 bad.1 bad.0) h))
      (λ t h m. unsound_alone b.package_name (effort_of b) h.parts h.constraints h.circuit cause h.is_so
      (net_stands b.package_name (effort_of b) t h.parts h.constraints h.circuit cause h.is_read h.is_circuit m));
  fault_is = λ fault e.
      told_of b old new cause (BadNet fault) (SaysNetlist (λ circuit. IsFaultOf circuit.netlist fault)) is e (λ i. i.0)
      (λ t h. netlist_weaker (IsFaulty fault) (λ circuit. IsFaultOf circuit.netlist fault) t (λ circuit bad. bad.0) h);
}

-- ---- pins and places
-- RAMs are told alone
rams_alone : (name : List ℕ) (effort : Effort) (parts : Parts) (constraints : List Constraint) (circuit : ClosedNetlistData) (fault : PinFault) (cause : Cause) → IsSound circuit.netlist
    → rams_said circuit ≡ Err fault → NetStands name effort parts constraints circuit cause → cause ≡ BadPin fault
rams_alone name effort parts constraints circuit fault cause sound said (inl bad) = absurd (faulty circuit.netlist bad.0 bad.3 bad.2 sound)
rams_alone name effort parts constraints circuit fault cause sound said (inr good) =
    fault_alone (rams_said circuit) BadPin (λ netlist. TaskStands (task_of parts name constraints (prepared_on parts netlist [])) effort) fault cause said good.1

pin_fault_alone : (b : Build) (t : List (List ℕ)) (fault : PinFault) (cause : Cause) → HasPinFault b.package_name fault t → StandsForBuild b.package_name (effort_of b) t cause → cause ≡ BadPin fault
pin_fault_alone b t fault cause (inl rams) m =
    rams_alone b.package_name (effort_of b) rams.parts rams.constraints rams.circuit fault cause rams.is_so.0 rams.is_so.1
    (net_stands b.package_name (effort_of b) t rams.parts rams.constraints rams.circuit cause rams.is_read rams.is_circuit m)
pin_fault_alone b t fault cause (inr pins) m =
    fault_alone (pins_said pins.task) BadPin (λ pads. PlacesStand pins.task (effort_of b)) fault cause pins.is_so (task_stands b.package_name (effort_of b) t pins.task cause pins.is_asked m)

pin_row : (b : Build) (old new : Meaning) (cause : Cause) → IsTrueOf (build_files b) old new cause → PinRow b old cause
pin_row b old new cause is fault =
    comes (build_files b) old new cause (λ c. c ≡ BadPin fault) (HasPinFault b.package_name fault) (lawful b) is
    (λ e. told_of b old new cause (BadPin fault) (HasPinFault b.package_name fault) is e (λ i. i.0) (λ t h. h)) (λ t h m. pin_fault_alone b t fault cause h m)

place_row : (b : Build) (old new : Meaning) (cause : Cause) → IsTrueOf (build_files b) old new cause → PlaceRow b old cause
place_row b old new cause is fault =
    comes (build_files b) old new cause (λ c. c ≡ Overfull fault) (Asks b.package_name (HasPlaceFault fault)) (lawful b) is
    (λ e. told_of b old new cause (Overfull fault) (Asks b.package_name (HasPlaceFault fault)) is e (λ i. i.0) (λ t h. h))
    (λ t h m. fault_alone (places_said h.task) Overfull (λ first. IsEnd h.task (effort_of b)) fault cause h.is_so.2
    (places_stand b.package_name (effort_of b) t h.task h.is_so.0 cause h.is_asked h.is_so.1 m))

-- ---- what is built
asks_weaker : (name : List ℕ) (P Q : Task → Type 0) (t : List (List ℕ)) → ((task : Task) → P task → Q task) → Asks name P t → Asks name Q t
asks_weaker name P Q t weaker h = record { task = h.task; is_asked = h.is_asked; is_so = weaker h.task h.is_so }

made_placeable : (b : Build) (t made : List (List ℕ)) (on : Arrangement) (counts : ToldOf) → IsMadeByBuild b t made on counts → Asks b.package_name IsPlaceable t
made_placeable b t made on counts g = record { task = g.task; is_asked = g.is_asked; is_so = laid_placeable g.task g.built.layout g.is_built.laid }

end_tried : (task : Task) (effort : Effort) (cause : Cause) → IsEnd task effort cause → IsTried cause
end_tried task effort cause is = of_end IsTried task effort (λ arrangement tallies kept. tt) (λ role put. tt) (λ arrangement net sink stuck. tt) (λ arrangement logs tallies kept given. tt) (λ fault bits. tt) cause is

tried_only : (b : Build) (old new : Meaning) (cause : Cause) → IsTrueOf (build_files b) old new cause → IsTried cause → OfTexts (files_of b) old (Asks b.package_name IsPlaceable)
tried_only b old new cause is tried =
    of_tried (λ c. IsTrueOf (build_files b) old new c → OfTexts (files_of b) old (Asks b.package_name IsPlaceable))
    (λ arrangement tallies kept i. of_weaker (files_of b) old (λ t. IsMadeByBuild b t i.made arrangement (telling tallies kept)) (Asks b.package_name IsPlaceable) (λ t g. made_placeable b t i.made arrangement (telling tallies kept) g) i.texts)
    (λ role put i. of_weaker (files_of b) old (λ t. IsMadeByBuild b t i.made i.arrangement i.told) (Asks b.package_name IsPlaceable) (λ t g. made_placeable b t i.made i.arrangement i.told g) i.texts)
    (λ arrangement net sink i. told_of b old new (Unreachable arrangement net sink) (Unreachable arrangement net sink) (Asks b.package_name IsPlaceable) i refl (λ j. j.0)
    (λ t h. asks_weaker b.package_name (λ task. IsStuckOn task arrangement net sink) IsPlaceable t (λ task stuck. laid_placeable task stuck.0 stuck.1) h))
    (λ arrangement logs tallies kept i. told_of b old new (GaveUp arrangement logs tallies kept) (GaveUp arrangement logs tallies kept) (Asks b.package_name IsPlaceable) i refl (λ j. j.0)
    (λ t h. asks_weaker b.package_name (λ task. IsGivenUpOn task (effort_of b) arrangement kept.items logs.items tallies.items) IsPlaceable t (λ task given. laid_placeable task given.0 given.1) h))
    (λ fault i. told_of b old new (BadBits fault) (BadBits fault) (Asks b.package_name IsPlaceable) i refl (λ j. j.0)
    (λ t h. asks_weaker b.package_name (λ task. HasBadBits task (effort_of b) fault) IsPlaceable t (λ task bits. laid_placeable task bits.built.layout bits.is_built.laid) h))
    cause tried is

tried_row : (b : Build) (old new : Meaning) (cause : Cause) → IsTrueOf (build_files b) old new cause → TriedRow b old cause
tried_row b old new cause is =
    comes (build_files b) old new cause IsTried (Asks b.package_name IsPlaceable) (lawful b) is (tried_only b old new cause is)
    (λ t h m. end_tried h.task (effort_of b) cause (end_stands b.package_name (effort_of b) t h.task h.is_so.0 h.is_so.1 cause h.is_asked h.is_so.2 h.is_so.3 m))

-- ---- the arrangement that is told
-- what the answer says of the task that the files hold
held_built : (b : Build) (old new : Meaning) (arrangement : Arrangement) (tallies : Vec Shut) (kept : Vec Kept) (t : List (List ℕ)) (task : Task) → HoldsTexts (files_of b) old t
    → IsAsked b.package_name t task → IsTrueOf (build_files b) old new (Good arrangement tallies kept) → IsBuiltOn task (effort_of b) arrangement
held_built b old new arrangement tallies kept t task holds asked is =
    let g = at_files (files_of b) old (λ texts. IsMadeByBuild b texts is.made arrangement (telling tallies kept)) t holds is.texts in
    subst (λ (x : Task). IsBuiltOn x (effort_of b) arrangement) (one_task b.package_name t g.task task g.is_asked asked) (g.built, g.is_built, sym g.is_arrangement)

held_stuck : (b : Build) (old new : Meaning) (arrangement : Arrangement) (net : NetNo) (sink : WireNo) (t : List (List ℕ)) (task : Task) → HoldsTexts (files_of b) old t
    → IsAsked b.package_name t task → IsTrueOf (build_files b) old new (Unreachable arrangement net sink) → IsStuckOn task arrangement net sink
held_stuck b old new arrangement net sink t task holds asked is =
    let h = told b.package_name (effort_of b) t (Unreachable arrangement net sink) (at_files (files_of b) old (λ texts. StandsForBuild b.package_name (effort_of b) texts (Unreachable arrangement net sink)) t holds is.0) in
    subst (λ (x : Task). IsStuckOn x arrangement net sink) (one_task b.package_name t h.task task h.is_asked asked) h.is_so

held_given_up : (b : Build) (old new : Meaning) (arrangement : Arrangement) (logs : Vec RoundLog) (tallies : Vec Shut) (kept : Vec Kept) (t : List (List ℕ)) (task : Task) → HoldsTexts (files_of b) old t
    → IsAsked b.package_name t task → IsTrueOf (build_files b) old new (GaveUp arrangement logs tallies kept) → IsGivenUpOn task (effort_of b) arrangement kept.items logs.items tallies.items
held_given_up b old new arrangement logs tallies kept t task holds asked is =
    let h = told b.package_name (effort_of b) t (GaveUp arrangement logs tallies kept) (at_files (files_of b) old (λ texts. StandsForBuild b.package_name (effort_of b) texts (GaveUp arrangement logs tallies kept)) t holds is.0) in
    subst (λ (x : Task). IsGivenUpOn x (effort_of b) arrangement kept.items logs.items tallies.items) (one_task b.package_name t h.task task h.is_asked asked) h.is_so

tallied_at : (b : Build) (old new : Meaning) (cause : Cause) (arrangement : Arrangement) (tallies : Vec Shut) (kept : Vec Kept) → IsTrueOf (build_files b) old new cause → cause ≡ Good arrangement tallies kept
    → OfTexts (files_of b) old (Asks b.package_name (λ task. IsToldOn task (effort_of b) arrangement (telling tallies kept)))
tallied_at b old new cause arrangement tallies kept is e =
    let i = subst (λ (x : Cause). IsTrueOf (build_files b) old new x) e is in
    of_weaker (files_of b) old (λ t. IsMadeByBuild b t i.made arrangement (telling tallies kept)) (Asks b.package_name (λ task. IsToldOn task (effort_of b) arrangement (telling tallies kept)))
    (λ t g. record { task = g.task; is_asked = g.is_asked; is_so = (g.built, g.is_built, sym g.is_arrangement, sym g.is_told) }) i.texts

built_row : (b : Build) (old new : Meaning) (cause : Cause) → IsTrueOf (build_files b) old new cause → BuiltRow b old cause
built_row b old new cause is = record {
  comes = record {
    only = λ arrangement about good. only arrangement good.0 good.1 good.2 good.3 (about_good arrangement good.0 good.1 good.2 good.3 about);
    always = λ arrangement t about holds h.
        of_about (λ c. IsTrueOf (build_files b) old new c → TellsGood c) arrangement (λ tallies kept i. (arrangement, tallies, kept, refl))
        (λ net sink i. absurd (built_not_stuck h.task (effort_of b) arrangement net sink h.is_so (held_stuck b old new arrangement net sink t h.task holds h.is_asked i)))
        (λ logs tallies kept i. absurd (built_not_given_up h.task (effort_of b) arrangement kept.items logs.items tallies.items h.is_so (held_given_up b old new arrangement logs tallies kept t h.task holds h.is_asked i)))
        cause about is;
  };
  told_is = λ arrangement tallies kept e. tallied_at b old new cause arrangement tallies kept is e;
}
  where
    about_good : (arrangement on : Arrangement) (tallies : Vec Shut) (kept : Vec Kept) → cause ≡ Good on tallies kept → IsAbout arrangement cause → on ≡ arrangement
    about_good arrangement on tallies kept e about = subst (IsAbout arrangement) e about

    only : (arrangement on : Arrangement) (tallies : Vec Shut) (kept : Vec Kept) → cause ≡ Good on tallies kept → on ≡ arrangement
        → OfTexts (files_of b) old (Asks b.package_name (λ task. IsBuiltOn task (effort_of b) arrangement))
    only arrangement on tallies kept e same =
        of_weaker (files_of b) old (Asks b.package_name (λ task. IsToldOn task (effort_of b) arrangement (telling tallies kept)))
        (Asks b.package_name (λ task. IsBuiltOn task (effort_of b) arrangement))
        (λ t h. record { task = h.task; is_asked = h.is_asked; is_so = (h.is_so.0, h.is_so.1, h.is_so.2) })
        (tallied_at b old new cause arrangement tallies kept is (e ∙ ap (λ (x : Arrangement). Good x tallies kept) same))

unreachable_row : (b : Build) (old new : Meaning) (cause : Cause) → IsTrueOf (build_files b) old new cause → UnreachableRow b old cause
unreachable_row b old new cause is net sink = record {
  only = λ arrangement about stuck. only arrangement stuck.0 stuck.1 (about_stuck arrangement stuck.0 stuck.1 about);
  always = λ arrangement t about holds h.
      of_about (λ c. IsTrueOf (build_files b) old new c → TellsUnreachable net sink c) arrangement
      (λ tallies kept i. absurd (built_not_stuck h.task (effort_of b) arrangement net sink (held_built b old new arrangement tallies kept t h.task holds h.is_asked i) h.is_so))
      (λ other last i. let same = stuck_on_one h.task arrangement other net last sink (held_stuck b old new arrangement other last t h.task holds h.is_asked i) h.is_so in (arrangement, told_same arrangement other last same.0 same.1))
      (λ logs tallies kept i. absurd (given_up_not_stuck_on h.task (effort_of b) arrangement kept.items logs.items tallies.items net sink (held_given_up b old new arrangement logs tallies kept t h.task holds h.is_asked i) h.is_so))
      cause about is;
}
  where
    about_stuck : (arrangement on : Arrangement) → cause ≡ Unreachable on net sink → IsAbout arrangement cause → on ≡ arrangement
    about_stuck arrangement on e about = subst (IsAbout arrangement) e about

    told_same : (arrangement : Arrangement) (other : NetNo) (last : WireNo) → other ≡ net → last ≡ sink → Unreachable arrangement other last ≡ Unreachable arrangement net sink
    told_same arrangement other last e f = ap (λ (n : NetNo). Unreachable arrangement n last) e ∙ ap (λ (w : WireNo). Unreachable arrangement net w) f

    only : (arrangement on : Arrangement) → cause ≡ Unreachable on net sink → on ≡ arrangement → OfTexts (files_of b) old (Asks b.package_name (λ task. IsStuckOn task arrangement net sink))
    only arrangement on e same =
        told_of b old new cause (Unreachable arrangement net sink) (Asks b.package_name (λ task. IsStuckOn task arrangement net sink)) is
        (e ∙ ap (λ (x : Arrangement). Unreachable x net sink) same) (λ i. i.0) (λ t h. h)

given_up_at : (b : Build) (old new : Meaning) (cause : Cause) (arrangement : Arrangement) (logs : Vec RoundLog) (tallies : Vec Shut) (kept : Vec Kept) → IsTrueOf (build_files b) old new cause
    → cause ≡ GaveUp arrangement logs tallies kept → OfTexts (files_of b) old (Asks b.package_name (λ task. IsGivenUpOn task (effort_of b) arrangement kept.items logs.items tallies.items))
given_up_at b old new cause arrangement logs tallies kept is e =
    told_of b old new cause (GaveUp arrangement logs tallies kept) (Asks b.package_name (λ task. IsGivenUpOn task (effort_of b) arrangement kept.items logs.items tallies.items)) is e (λ i. i.0) (λ t h. h)

gave_up_row : (b : Build) (old new : Meaning) (cause : Cause) → IsTrueOf (build_files b) old new cause → GaveUpRow b old cause
gave_up_row b old new cause is = record {
  comes = record {
    only = λ arrangement about gave. only arrangement gave.0 gave.1 gave.2 gave.3 gave.4 (about_gave arrangement gave.0 gave.1 gave.2 gave.3 gave.4 about);
    always = λ arrangement t about holds h.
        of_about (λ c. IsTrueOf (build_files b) old new c → TellsGivenUp c) arrangement
        (λ tallies kept i. absurd (built_not_given_up h.task (effort_of b) arrangement h.is_so.0 h.is_so.1 h.is_so.2 (held_built b old new arrangement tallies kept t h.task holds h.is_asked i) h.is_so.3))
        (λ net sink i. absurd (given_up_not_stuck_on h.task (effort_of b) arrangement h.is_so.0 h.is_so.1 h.is_so.2 net sink h.is_so.3 (held_stuck b old new arrangement net sink t h.task holds h.is_asked i)))
        (λ logs tallies kept i. (arrangement, logs, tallies, kept, refl)) cause about is;
  };
  logs_are = λ arrangement logs tallies kept e. given_up_at b old new cause arrangement logs tallies kept is e;
}
  where
    about_gave : (arrangement on : Arrangement) (logs : Vec RoundLog) (tallies : Vec Shut) (kept : Vec Kept) → cause ≡ GaveUp on logs tallies kept → IsAbout arrangement cause → on ≡ arrangement
    about_gave arrangement on logs tallies kept e about = subst (IsAbout arrangement) e about

    only : (arrangement on : Arrangement) (logs : Vec RoundLog) (tallies : Vec Shut) (kept : Vec Kept) → cause ≡ GaveUp on logs tallies kept → on ≡ arrangement
        → OfTexts (files_of b) old (Asks b.package_name (λ task. (left : List Kept) × (all : List RoundLog) × (shuts : List Shut) × IsGivenUpOn task (effort_of b) arrangement left all shuts))
    only arrangement on logs tallies kept e same =
        of_weaker (files_of b) old (Asks b.package_name (λ task. IsGivenUpOn task (effort_of b) arrangement kept.items logs.items tallies.items))
        (Asks b.package_name (λ task. (left : List Kept) × (all : List RoundLog) × (shuts : List Shut) × IsGivenUpOn task (effort_of b) arrangement left all shuts))
        (λ t h. record { task = h.task; is_asked = h.is_asked; is_so = (kept.items, logs.items, tallies.items, h.is_so) })
        (given_up_at b old new cause arrangement logs tallies kept is (e ∙ ap (λ (x : Arrangement). GaveUp x logs tallies kept) same))

bits_row : (b : Build) (old new : Meaning) (cause : Cause) → IsTrueOf (build_files b) old new cause → BitsRow b old cause
bits_row b old new cause is fault e =
    told_of b old new cause (BadBits fault) (Asks b.package_name (λ task. HasBadBits task (effort_of b) fault)) is e (λ i. i.0) (λ t h. h)

-- ---- what is written
-- what was made is on file
held_written : (b : Build) (old new : Meaning) (on : Arrangement) (counts : ToldOf) → IsHeld (build_files b) old new on counts → IsWritten b old new on counts
held_written b old new on counts held =
    let g = held.gives in
    let bits = asc_text g.task.parts g.built.bits in
    let pad_lines = pin_text g.is_asked.circuit g.bonded g.built.layout.pads.ports in
    let route_lines = routes_text g.task.parts g.built.layout g.built.routed.logs.items true in
    let hold = subst (λ (made : List (List ℕ)). HoldFrom 1 (outputs_of b) made new) g.are_texts held.there in
    record {
      texts = held.texts;
      made = held.made;
      hold = held.hold;
      of = g;
      bits = λ apart. held_bits b.asc bits pad_lines route_lines new b.pins b.report hold apart.0 apart.1;
      pins = λ name e apart. held_pins b.asc bits pad_lines route_lines new b.pins b.report name hold e apart;
      report = λ name e. held_report b.asc bits pad_lines route_lines new b.pins b.report name hold e;
    }

written_row : (b : Build) (old new : Meaning) (cause : Cause) (status : ℕ) → GoodRow (build_files b) old new cause status → WrittenRow b old new cause
written_row b old new cause status good arrangement tallies kept e tells = held_written b old new arrangement (telling tallies kept) (good.held arrangement tallies kept e tells)

-- what the three files hold that are read
held_three : (b : Build) (old : Meaning) (t : List (List ℕ)) → HoldEach (files_of b) old t
    → (old.files b.chip ≡ Some (text_at t 1)) × (old.files b.pcf ≡ Some (text_at t 2)) × (old.files b.blif ≡ Some (text_at t 3))
held_three b old [] held = absurd held
held_three b old (c ∷ []) held = absurd held.2
held_three b old (c ∷ p ∷ []) held = absurd held.2.2
held_three b old (c ∷ p ∷ n ∷ []) held = (held.0, held.2.0, held.2.2.0)
held_three b old (c ∷ p ∷ n ∷ x ∷ more) held = absurd held.2.2.2

pub headline_row : (b : Build) (old new : Meaning) (cause : Cause) (status : ℕ) → IsTrueOf (build_files b) old new cause → status ≡ status_of cause → HeadlineRow b old new status
headline_row b old new cause status is_true counted zero_status tells =
    let good = good_row (build_files b) old new cause status is_true counted in
    let done = good.done zero_status in
    let is = written_row b old new cause status good done.0 done.1 done.2 done.3 tells in
    let held = held_three b old is.texts is.hold.each in
    record {
      chip_text = text_at is.texts 1;
      pins_text = text_at is.texts 2;
      netlist_text = text_at is.texts 3;
      bits_text = asc_text is.of.task.parts is.of.built.bits;
      holds_chip = held.0;
      holds_pins = held.1;
      holds_netlist = held.2;
      holds_bits = is.bits;
      is_shown = made_shown b is.texts is.made done.0 (telling done.1 done.2) is.of;
    }

-- what follows with the pads that are chosen, and of what was given
pub former_rows : CausesHaveFormerRows
former_rows b old new cause status is_true counted =
    let good = good_row (build_files b) old new cause status is_true counted in
    record {
      headline = λ zero_status tells.
          let done = good.done zero_status in
          let is = written_row b old new cause status good done.0 done.1 done.2 done.3 tells in
          record {
            texts = is.texts;
            bits_text = asc_text is.of.task.parts is.of.built.bits;
            hold = is.hold;
            holds_bits = is.bits;
            is_shown = made_shown_exactly b is.texts is.made done.0 (telling done.1 done.2) is.of;
          };
      good = good;
    }

-- ---- the report on rounds that gave up
parted_reported : (b : Build) (old new : Meaning) (arrangement : Arrangement) (logs : Vec RoundLog) (tallies : Vec Shut) (kept : Vec Kept) (file : File) → old.tells ≡ true
    → IsParted (build_files b) file old new (GaveUp arrangement logs tallies kept) → HoldsReport b old new file.name arrangement kept.items logs.items tallies.items
parted_reported b old new arrangement logs tallies kept file tells is = record {
  texts = is.texts.0;
  report = is.text;
  hold = holds_read (files_of b) old is.texts.0 tells is.texts.1;
  tells = is.texts.2;
  left = is.left tells;
}

reported_row : (b : Build) (old new : Meaning) (cause : Cause) → PartingRow (build_files b) old new cause → ReportedRow b old new cause
reported_row b old new cause row arrangement logs tallies kept name e asked tells =
    parted_reported b old new arrangement logs tallies kept (record { role = Report; name = name }) tells
    (subst (λ (c : Cause). PartingRow (build_files b) old new c) e row (record { role = Report; name = name }) (ap (file_asked Report) asked) tt)

-- ---- all of them
pub answers : (b : Build) (old new : Meaning) (end : Done) → IsTrueOf (build_files b) old new end.cause → end.status ≡ status_of end.cause → TellsLong new end.cause
    → PartingRow (build_files b) old new end.cause → IsBuildAnswer b old new end
answers b old new end is status told_long parted =
    let good = good_row (build_files b) old new end.cause end.status is status in
    record {
      written = written_row b old new end.cause end.status good;
      built = built_row b old new end.cause is;
      bad_blif = blif_row b old new end.cause is;
      bad_pcf = pcf_row b old new end.cause is;
      bad_chip = chip_row b old new end.cause is;
      bad_net = net_row b old new end.cause is;
      bad_pin = pin_row b old new end.cause is;
      overfull = place_row b old new end.cause is;
      tried = tried_row b old new end.cause is;
      unreachable = unreachable_row b old new end.cause is;
      gave_up = gave_up_row b old new end.cause is;
      reported = reported_row b old new end.cause parted;
      bad_bits = bits_row b old new end.cause is;
      read_fault = read_fault_row (build_files b) old new end.cause is;
      write_fault = write_fault_row (build_files b) old new end.cause is;
      too_long = too_long_row (build_files b) old new end.cause is told_long;
    }

-- how the command ended
pub ends : (b : Build) (old mid new : Meaning) (result : Result Made Refused) (cause : Cause) → SameButReading old mid → IsMadeOf (build_files b) old mid (unreported result)
    → IsReported (build_files b) old result → IsEndInFiles (outputs_of b) (parting_of b) result mid new cause → IsEndOf (build_files b) old new cause
ends b old mid new result cause read made left end = end_is_in_files (build_files b) (outputs_of b) old mid new result cause read made left end
