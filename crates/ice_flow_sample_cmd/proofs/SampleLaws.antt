-- When each answer of `sample` comes, from how the sample texts stand.
use Rattle.std.proofs.Common.{◌≡◌, ◌≢◌, ◌⊎◌, ◌∙◌, ◌<◌, ◌≤◌, ℕ, List, [], Result, Ok, Err, IfOk, IfErr, inl, inr, refl, sym, ap, subst, arith}
use Rattle.std.specs.Global.{Vec}
use Rattle.ice_flow_frame.proofs.CommandRows.{Lawful, good_row, write_fault_row}
use Rattle.ice_flow_frame.proofs.Ended.{made_of_texts, end_is_aloud}
use Rattle.ice_flow_frame.proofs.Standings.{fault_alone, of_done}
use Rattle.ice_flow_frame.specs.Causes.{status_of}
use Rattle.ice_flow_frame.specs.Commands.{IsDone, IsRefusal, IsTrueOf}
use Rattle.ice_flow_frame.specs.Ends.{IsEndAloud, IsEndOf}
use Rattle.ice_flow_frame.specs.Reading.{IsLastRead}
use Rattle.ice_flow_frame.specs.Tells.{TellsNetFault, IsAbout, TellsGood, TellsUnreachable, TellsGivenUp}
use Rattle.ice_flow_frame.specs.Rows.{IsHeld, GoodRow}
use Rattle.ice_flow_frame.specs.Texts.{text_at}
use Rattle.ice_flow_frame.specs.declared.cause.Cause.{Cause}
use Rattle.ice_flow_frame.specs.declared.cause.Cause.TheVariants.{Good, Usage, BadBlif, BadPcf, BadChip, BadNet, BadPin, Overfull, Unreachable, GaveUp, ReadFault, WriteFault, NoMemory, BadAsc, BadBits, TooLong, BadLevels, BadDelays}
use Rattle.ice_flow_frame.specs.declared.cause.Done.{Done}
use Rattle.ice_flow_frame.specs.declared.cause.FileRole.{FileRole}
use Rattle.ice_flow_frame.specs.declared.giving.Made.{Made}
use Rattle.ice_base.specs.declared.number.NetNo.{NetNo}
use Rattle.ice_place.specs.declared.arrangement.Arrangement.{Arrangement}
use Rattle.ice_base.specs.declared.number.WireNo.{WireNo}
use Rattle.ice_blif.specs.Grammar.{netlist_of}
use Rattle.ice_flow_build.proofs.Answering.{pins_good, places_good, laid_placeable}
use Rattle.ice_flow_build.proofs.Excluding.{routed_not_stuck_on, routed_not_given_up_on, given_up_not_stuck_on, stuck_on_one}
use Rattle.ice_flow_build.specs.Answers.{pins_said, places_said, HasPlaceFault, IsPlaceable}
use Rattle.ice_flow_build.specs.Laid.{Task}
use Rattle.ice_flow_build.specs.Placements.{IsRoutedOn, IsStuckOn, IsGivenUpOn}
use Rattle.ice_check.proofs.Faulty.{faulty}
use Rattle.ice_check.specs.Refusals.{IsFaultOf}
use Rattle.ice_check.specs.Sound.{IsSound}
use Rattle.ice_check.specs.declared.fault.NetFault.TheVariants as net_fault
use Rattle.ice_chip.specs.Database.{Parts}
use Rattle.ice_chip_read.specs.Whole.{chip_says}
use Rattle.ice_core.specs.declared.log.RoundLog.{RoundLog}
use Rattle.ice_desk.specs.Desk.{Meaning}
use Rattle.ice_desk.specs.Changes.{SameButReading, SameButSaying}
use Rattle.ice_net.specs.NetlistData.{NetlistData}
use Rattle.ice_flow_sample_cmd.specs.Command.{sample}
use Rattle.ice_flow_sample_cmd.specs.Made.{IsSampled, IsToldOn}
use Rattle.ice_flow_sample_cmd.specs.SampleRows.{Comes, ChipRow, BlifRow, HasBlifFault, SaysNetlist, NetRow, PinRow, PlaceRow, IsTried, TriedRow, RoutedRow, UnreachableRow, GaveUpRow, IsOfSample, SummaryRow, IsSampleAnswer}
use Rattle.ice_flow_sample_cmd.specs.Samples.{Sample, chip_text, net_text, sample_effort, IsAsked, Asks}
use Rattle.ice_flow_sample_cmd.specs.Standing.{IsEnd, PlacesStand, NetStands, BlifStands, StandsForSample}
use Rattle.ice_flow_sample_cmd.proofs.Standing.{blif_stands, net_stands, task_stands, places_stand, end_stands, end_so, task_so, one_task}
use Rattle.ice_flow_frame.proofs.Tells.{of_about}
use Rattle.ice_flow_sample_cmd.proofs.Telling.{of_end, of_tried, Told, told, told_sample}
use Rattle.ice_flow_frame.specs.Told.{Told as ToldOf, telling, told_in}
use Rattle.ice_negotiate_defs.specs.declared.kept.Kept.{Kept}
use Rattle.ice_words.specs.Grips.{Shut}

-- ---- what a cause says of the texts
done_end : (task : Task) (cause : Cause) → IsDone cause → IsEnd task cause
done_end task cause done = of_done (IsEnd task) (λ arrangement tallies kept. tt) (λ role put. tt) cause done

done_so : (number : ℕ) (text : List ℕ) (on : Arrangement) (counts : ToldOf) (cause : Cause) → IsSampled number text on counts → IsDone cause → StandsForSample number cause
done_so number text on counts cause g done =
    task_so number g.task cause g.is_asked
    (end_so g.task g.layout.pads g.is_laid.placed.first cause (pins_good g.task g.layout g.is_laid) (places_good g.task g.layout g.is_laid) (done_end g.task cause done))

pub lawful : (s : Sample) → Lawful (sample s)
lawful s = record {
  done = λ texts made on counts cause g done. done_so s.number (text_at made 1) on counts cause g done;
  never = λ texts m. told s.number Usage m;
}

-- no file is read, so none was read last
none_last : (old new : Meaning) (role : FileRole) → IsLastRead [] old new role → ⊥
none_last old new role last = let some : 0 < last.place = last.some in let few : last.place ≤ 0 = last.few in omega (arith, some, few)

says : (s : Sample) (old new : Meaning) (cause : Cause) → IsTrueOf (sample s) old new cause → StandsForSample s.number cause ⊎ (cause ≡ NoMemory)
says s old new (Good arrangement tallies kept) is = inl (done_so s.number (text_at is.made 1) arrangement (telling tallies kept) (Good arrangement tallies kept) is.texts.2 tt)
says s old new Usage is = inl is.0.2
says s old new (BadBlif fault) is = inl is.0.2
says s old new (BadPcf fault) is = inl is.0.2
says s old new (BadChip fault) is = inl is.0.2
says s old new (BadNet fault) is = inl is.0.2
says s old new (BadPin fault) is = inl is.0.2
says s old new (Overfull fault) is = inl is.0.2
says s old new (Unreachable arrangement net sink) is = inl is.0.2
says s old new (GaveUp arrangement logs tallies kept) is = inl is.0.2
says s old new (ReadFault role) is = absurd (none_last old new role is.last)
says s old new (WriteFault role put) is = inl (done_so s.number (text_at is.made 1) is.arrangement is.told (WriteFault role put) is.texts.2 tt)
says s old new NoMemory is = inr refl
says s old new (BadAsc fault) is = inl is.0.2
says s old new (BadBits fault) is = inl is.0.2
says s old new (TooLong role limit) is = absurd (none_last old new role is.last)
says s old new (BadLevels line) is = inl is.0.2
says s old new (BadDelays line) is = inl is.0.2

-- ---- the rows
module _ (s : Sample) (old new : Meaning) (cause : Cause) (is : IsTrueOf (sample s) old new cause) where
  -- what a refusal by this cause tells
  told_of : (fault : Cause) → cause ≡ fault → (IsTrueOf (sample s) old new fault → StandsForSample s.number fault) → Told s.number fault
  told_of fault e stands = told s.number fault (stands (subst (λ (x : Cause). IsTrueOf (sample s) old new x) e is))

  comes : (IsSuch : Cause → Type 0) (IsSo : Type 0) → (IsSuch cause → IsSo) → (IsSo → StandsForSample s.number cause → IsSuch cause) → Comes IsSuch IsSo cause
  comes IsSuch IsSo only always = record {
    only = only;
    always = λ so. elim (says s old new cause is) [
      | inl stands ↦ inl (always so stands)
      | inr none ↦ inr none
    ];
  }

  -- ---- the texts
  chip_row : ChipRow cause
  chip_row fault =
      comes (λ c. c ≡ BadChip fault) (chip_says chip_text ≡ Err fault) (λ e. told_of (BadChip fault) e (λ i. i.0.2))
      (λ h m. fault_alone (chip_says chip_text) BadChip (BlifStands s.number) fault cause h m)

  blif_row : BlifRow s.number cause
  blif_row fault =
      comes (λ c. c ≡ BadBlif fault) (HasBlifFault s.number fault) (λ e. told_of (BadBlif fault) e (λ i. i.0.2))
      (λ h m. fault_alone (netlist_of (net_text s.number)) BadBlif (NetStands h.0) fault cause h.2 (blif_stands s.number h.0 cause h.1 m))

  -- ---- the netlist
  unsound_alone : (parts : Parts) (circuit : NetlistData) → (IsSound circuit → ⊥) → NetStands parts circuit cause → TellsNetFault cause
  unsound_alone parts circuit unsound (inl bad) = (bad.0, bad.1)
  unsound_alone parts circuit unsound (inr good) = absurd (unsound good.0)

  netlist_weaker : (P Q : NetlistData → Type 0) → ((circuit : NetlistData) → P circuit → Q circuit) → SaysNetlist s.number P → SaysNetlist s.number Q
  netlist_weaker P Q weaker h = record { parts = h.parts; circuit = h.circuit; is_chip = h.is_chip; is_circuit = h.is_circuit; is_so = weaker h.circuit h.is_so }

  net_row : NetRow s.number cause
  net_row = record {
    comes = comes TellsNetFault (SaysNetlist s.number (λ circuit. IsSound circuit → ⊥))
        (λ f. netlist_weaker (λ circuit. IsFaultOf circuit f.0 × (f.0 ≢ net_fault.NoMemory)) (λ circuit. IsSound circuit → ⊥) (λ circuit bad. faulty circuit f.0 bad.1 bad.0)
        (told_of (BadNet f.0) f.1 (λ i. i.0.2)))
        (λ h m. unsound_alone h.parts h.circuit h.is_so (net_stands s.number h.parts h.circuit cause h.is_chip h.is_circuit m));
    fault_is = λ fault e.
        netlist_weaker (λ circuit. IsFaultOf circuit fault × (fault ≢ net_fault.NoMemory)) (λ circuit. IsFaultOf circuit fault) (λ circuit bad. bad.0)
        (told_of (BadNet fault) e (λ i. i.0.2));
  }

  -- ---- pins and places
  pin_row : PinRow s.number cause
  pin_row fault =
      comes (λ c. c ≡ BadPin fault) (Asks s.number (λ task. pins_said task ≡ Err fault)) (λ e. told_of (BadPin fault) e (λ i. i.0.2))
      (λ h m. fault_alone (pins_said h.task) BadPin (λ pads. PlacesStand h.task) fault cause h.is_so (task_stands s.number h.task cause h.is_asked m))

  place_row : PlaceRow s.number cause
  place_row fault =
      comes (λ c. c ≡ Overfull fault) (Asks s.number (HasPlaceFault fault)) (λ e. told_of (Overfull fault) e (λ i. i.0.2))
      (λ h m. fault_alone (places_said h.task) Overfull (λ first. IsEnd h.task) fault cause h.is_so.2 (places_stand s.number h.task h.is_so.0 cause h.is_asked h.is_so.1 m))

  -- ---- what is routed
  asks_weaker : (P Q : Task → Type 0) → ((task : Task) → P task → Q task) → Asks s.number P → Asks s.number Q
  asks_weaker P Q weaker h = record { task = h.task; is_asked = h.is_asked; is_so = weaker h.task h.is_so }

  sampled_placeable : (text : List ℕ) (on : Arrangement) (counts : ToldOf) → IsSampled s.number text on counts → Asks s.number IsPlaceable
  sampled_placeable text on counts g = record { task = g.task; is_asked = g.is_asked; is_so = laid_placeable g.task g.layout g.is_laid }

  tried_only : IsTried cause → Asks s.number IsPlaceable
  tried_only tried =
      of_tried (λ c. IsTrueOf (sample s) old new c → Asks s.number IsPlaceable)
      (λ arrangement tallies kept i. sampled_placeable (text_at i.made 1) arrangement (telling tallies kept) i.texts.2)
      (λ role put i. sampled_placeable (text_at i.made 1) i.arrangement i.told i.texts.2)
      (λ arrangement net sink i. asks_weaker (λ task. IsStuckOn task arrangement net sink) IsPlaceable (λ task stuck. laid_placeable task stuck.0 stuck.1) (told s.number (Unreachable arrangement net sink) i.0.2))
      (λ arrangement logs tallies kept i. asks_weaker (λ task. IsGivenUpOn task sample_effort arrangement kept.items logs.items tallies.items) IsPlaceable (λ task given. laid_placeable task given.0 given.1)
      (told s.number (GaveUp arrangement logs tallies kept) i.0.2))
      cause tried is

  end_tried : (task : Task) → IsEnd task cause → IsTried cause
  end_tried task end = of_end IsTried task (λ arrangement tallies kept. tt) (λ role put. tt) (λ arrangement net sink stuck. tt) (λ arrangement logs tallies kept given. tt) cause end

  tried_row : TriedRow s.number cause
  tried_row =
      comes IsTried (Asks s.number IsPlaceable) tried_only
      (λ h m. end_tried h.task (end_stands s.number h.task h.is_so.0 h.is_so.1 cause h.is_asked h.is_so.2 h.is_so.3 m))

  -- ---- the arrangement that is told
  tallied : (arrangement : Arrangement) (tallies : Vec Shut) (kept : Vec Kept) → IsTrueOf (sample s) old new (Good arrangement tallies kept) → Asks s.number (λ task. IsToldOn task arrangement (telling tallies kept))
  tallied arrangement tallies kept i =
      let g : IsSampled s.number (text_at i.made 1) arrangement (telling tallies kept) = i.texts.2 in
      record { task = g.task; is_asked = g.is_asked; is_so = (g.kept, g.routed, (g.layout, g.is_laid, sym g.is_arrangement, g.is_routed), sym g.is_told) }

  -- what the answer says of the task that the texts say
  routed_here : (arrangement : Arrangement) (tallies : Vec Shut) (kept : Vec Kept) (task : Task) → IsAsked s.number task → IsTrueOf (sample s) old new (Good arrangement tallies kept) → IsRoutedOn task sample_effort arrangement
  routed_here arrangement tallies kept task asked i =
      let h = tallied arrangement tallies kept i in
      subst (λ (x : Task). IsRoutedOn x sample_effort arrangement) (one_task s.number h.task task h.is_asked asked) (h.is_so.0, h.is_so.1, h.is_so.2)

  stuck_here : (arrangement : Arrangement) (net : NetNo) (sink : WireNo) (task : Task) → IsAsked s.number task → IsTrueOf (sample s) old new (Unreachable arrangement net sink)
      → IsStuckOn task arrangement net sink
  stuck_here arrangement net sink task asked i =
      let h = told s.number (Unreachable arrangement net sink) i.0.2 in
      subst (λ (x : Task). IsStuckOn x arrangement net sink) (one_task s.number h.task task h.is_asked asked) h.is_so

  given_up_here : (arrangement : Arrangement) (logs : Vec RoundLog) (tallies : Vec Shut) (kept : Vec Kept) (task : Task) → IsAsked s.number task → IsTrueOf (sample s) old new (GaveUp arrangement logs tallies kept)
      → IsGivenUpOn task sample_effort arrangement kept.items logs.items tallies.items
  given_up_here arrangement logs tallies kept task asked i =
      let h = told s.number (GaveUp arrangement logs tallies kept) i.0.2 in
      subst (λ (x : Task). IsGivenUpOn x sample_effort arrangement kept.items logs.items tallies.items) (one_task s.number h.task task h.is_asked asked) h.is_so

  tallied_at : (arrangement : Arrangement) (tallies : Vec Shut) (kept : Vec Kept) → cause ≡ Good arrangement tallies kept → Asks s.number (λ task. IsToldOn task arrangement (telling tallies kept))
  tallied_at arrangement tallies kept e = tallied arrangement tallies kept (subst (λ (x : Cause). IsTrueOf (sample s) old new x) e is)

  routed_only : (arrangement on : Arrangement) (tallies : Vec Shut) (kept : Vec Kept) → cause ≡ Good on tallies kept → on ≡ arrangement → Asks s.number (λ task. IsRoutedOn task sample_effort arrangement)
  routed_only arrangement on tallies kept e same =
      asks_weaker (λ task. IsToldOn task arrangement (telling tallies kept)) (λ task. IsRoutedOn task sample_effort arrangement) (λ task t. (t.0, t.1, t.2))
      (tallied_at arrangement tallies kept (e ∙ ap (λ (x : Arrangement). Good x tallies kept) same))

  routed_row : RoutedRow s.number cause
  routed_row = record {
    comes = record {
      only = λ arrangement about good. routed_only arrangement good.0 good.1 good.2 good.3 (subst (IsAbout arrangement) good.3 about);
      always = λ arrangement about h.
          of_about (λ c. IsTrueOf (sample s) old new c → TellsGood c) arrangement (λ tallies kept i. (arrangement, tallies, kept, refl))
          (λ net sink i. absurd (routed_not_stuck_on h.task sample_effort arrangement h.is_so.0 h.is_so.1 net sink h.is_so.2 (stuck_here arrangement net sink h.task h.is_asked i)))
          (λ logs tallies kept i. absurd (routed_not_given_up_on h.task sample_effort arrangement h.is_so.0 kept.items h.is_so.1 logs.items tallies.items h.is_so.2 (given_up_here arrangement logs tallies kept h.task h.is_asked i)))
          cause about is;
    };
    told_is = λ arrangement tallies kept e. tallied_at arrangement tallies kept e;
  }

  told_same : (arrangement : Arrangement) (net other : NetNo) (sink last : WireNo) → other ≡ net → last ≡ sink → Unreachable arrangement other last ≡ Unreachable arrangement net sink
  told_same arrangement net other sink last e f = ap (λ (n : NetNo). Unreachable arrangement n last) e ∙ ap (λ (w : WireNo). Unreachable arrangement net w) f

  stuck_only : (arrangement on : Arrangement) (net : NetNo) (sink : WireNo) → cause ≡ Unreachable on net sink → on ≡ arrangement → Asks s.number (λ task. IsStuckOn task arrangement net sink)
  stuck_only arrangement on net sink e same = told_of (Unreachable arrangement net sink) (e ∙ ap (λ (x : Arrangement). Unreachable x net sink) same) (λ i. i.0.2)

  unreachable_row : UnreachableRow s.number cause
  unreachable_row net sink = record {
    only = λ arrangement about stuck. stuck_only arrangement stuck.0 net sink stuck.1 (subst (IsAbout arrangement) stuck.1 about);
    always = λ arrangement about h.
        of_about (λ c. IsTrueOf (sample s) old new c → TellsUnreachable net sink c) arrangement
        (λ tallies kept i. let r = routed_here arrangement tallies kept h.task h.is_asked i in absurd (routed_not_stuck_on h.task sample_effort arrangement r.0 r.1 net sink r.2 h.is_so))
        (λ other last i.
        let same = stuck_on_one h.task arrangement other net last sink (stuck_here arrangement other last h.task h.is_asked i) h.is_so in (arrangement, told_same arrangement net other sink last same.0 same.1))
        (λ logs tallies kept i. absurd (given_up_not_stuck_on h.task sample_effort arrangement kept.items logs.items tallies.items net sink (given_up_here arrangement logs tallies kept h.task h.is_asked i) h.is_so))
        cause about is;
  }

  given_up_at : (arrangement : Arrangement) (logs : Vec RoundLog) (tallies : Vec Shut) (kept : Vec Kept) → cause ≡ GaveUp arrangement logs tallies kept
      → Asks s.number (λ task. IsGivenUpOn task sample_effort arrangement kept.items logs.items tallies.items)
  given_up_at arrangement logs tallies kept e = told_of (GaveUp arrangement logs tallies kept) e (λ i. i.0.2)

  given_up_only : (arrangement on : Arrangement) (logs : Vec RoundLog) (tallies : Vec Shut) (kept : Vec Kept) → cause ≡ GaveUp on logs tallies kept → on ≡ arrangement
      → Asks s.number (λ task. (left : List Kept) × (all : List RoundLog) × (shuts : List Shut) × IsGivenUpOn task sample_effort arrangement left all shuts)
  given_up_only arrangement on logs tallies kept e same =
      asks_weaker (λ task. IsGivenUpOn task sample_effort arrangement kept.items logs.items tallies.items) (λ task. (left : List Kept) × (all : List RoundLog) × (shuts : List Shut) × IsGivenUpOn task sample_effort arrangement left all shuts)
      (λ task given. (kept.items, logs.items, tallies.items, given)) (given_up_at arrangement logs tallies kept (e ∙ ap (λ (x : Arrangement). GaveUp x logs tallies kept) same))

  gave_up_row : GaveUpRow s.number cause
  gave_up_row = record {
    comes = record {
      only = λ arrangement about gave. given_up_only arrangement gave.0 gave.1 gave.2 gave.3 gave.4 (subst (IsAbout arrangement) gave.4 about);
      always = λ arrangement about h.
          of_about (λ c. IsTrueOf (sample s) old new c → TellsGivenUp c) arrangement
          (λ tallies kept i. let r = routed_here arrangement tallies kept h.task h.is_asked i in absurd (routed_not_given_up_on h.task sample_effort arrangement r.0 h.is_so.0 r.1 h.is_so.1 h.is_so.2 r.2 h.is_so.3))
          (λ net sink i. absurd (given_up_not_stuck_on h.task sample_effort arrangement h.is_so.0 h.is_so.1 h.is_so.2 net sink h.is_so.3 (stuck_here arrangement net sink h.task h.is_asked i)))
          (λ logs tallies kept i. (arrangement, logs, tallies, kept, refl)) cause about is;
    };
    logs_are = λ arrangement logs tallies kept e. given_up_at arrangement logs tallies kept e;
  }

  no_others : IsOfSample cause
  no_others = elim (says s old new cause is) [
    | inl stands ↦ told_sample s.number cause (told s.number cause stands)
    | inr none ↦ subst IsOfSample (sym none) tt
  ]

summary_row : (s : Sample) (old new : Meaning) (cause : Cause) (status : ℕ) → GoodRow (sample s) old new cause status → SummaryRow s.number old new cause status
summary_row s old new cause status good zero_status tells =
    let done = good.done zero_status in
    let held : IsHeld (sample s) old new done.0 (telling done.1 done.2) = good.held done.0 done.1 done.2 done.3 tells in
    (done.0, done.1, done.2, text_at held.made 1, done.3, held.there, held.gives)

-- ---- all of them
pub answers : (s : Sample) (old new : Meaning) (end : Done) → IsTrueOf (sample s) old new end.cause → end.status ≡ status_of end.cause → IsSampleAnswer s old new end
answers s old new end is status =
    let good = good_row (sample s) old new end.cause end.status is status in
    record {
      summed_up = summary_row s old new end.cause end.status good;
      good = good;
      routed = routed_row s old new end.cause is;
      bad_chip = chip_row s old new end.cause is;
      bad_blif = blif_row s old new end.cause is;
      bad_net = net_row s old new end.cause is;
      bad_pin = pin_row s old new end.cause is;
      overfull = place_row s old new end.cause is;
      tried = tried_row s old new end.cause is;
      unreachable = unreachable_row s old new end.cause is;
      gave_up = gave_up_row s old new end.cause is;
      write_fault = write_fault_row (sample s) old new end.cause is;
      no_others = no_others s old new end.cause is;
    }

-- ---- how the command ends
read_nothing : (old : Meaning) → SameButReading old old
read_nothing old = record {
  tells = refl;
  files = refl;
  taken = refl;
  said = refl;
  makes = refl;
  says = refl;
  puts = refl;
  is_open = refl;
  write_faults = refl;
  say_faults = refl;
  read_faults = omega arith;
}

pub ends : (s : Sample) (old new : Meaning) (result : Result Made Cause) (cause : Cause) → IfOk result (λ made. IsSampled s.number (text_at made.texts 1) made.arrangement (told_in made))
    → IfErr result (λ refusal. IsRefusal (StandsForSample s.number) refusal) → IsEndAloud result old new cause → IsEndOf (sample s) old new cause
ends s old new result cause made refused end = end_is_aloud (sample s) old old new result cause (read_nothing old) (made_of_texts (sample s) old old [] result tt refl made refused) end

pub same : (old new : Meaning) (result : Result Made Cause) (cause : Cause) → IsEndAloud result old new cause → SameButSaying old new
same old new (Ok made) cause end = end.same
same old new (Err refusal) cause end = end.line.same
