-- What each cause of `sample` tells of the sample texts.
use Rattle.std.proofs.Common.{◌≡◌, ◌≢◌, ℕ, List, [], Result, Ok, Err, inl, inr, refl, sym, subst}
use Rattle.std.specs.Global.{Vec}
use Rattle.ice_flow_frame.proofs.Standings.{fault_alone, then_stands}
use Rattle.ice_flow_frame.specs.declared.cause.Cause.{Cause}
use Rattle.ice_flow_frame.specs.declared.cause.Cause.TheVariants.{Good, Usage, BadBlif, BadPcf, BadChip, BadNet, BadPin, Overfull, Unreachable, GaveUp, ReadFault, WriteFault, NoMemory, BadAsc, BadBits, TooLong, BadLevels, BadDelays}
use Rattle.ice_flow_frame.specs.declared.cause.FileRole.{FileRole}
use Rattle.ice_base.specs.declared.number.NetNo.{NetNo}
use Rattle.ice_base.specs.declared.number.TileAt.{TileAt}
use Rattle.ice_place.specs.declared.arrangement.Arrangement.{Arrangement}
use Rattle.ice_base.specs.declared.number.WireNo.{WireNo}
use Rattle.ice_blif.specs.Grammar.{netlist_of}
use Rattle.ice_blif.specs.declared.fault.BlifFault.{BlifFault}
use Rattle.ice_flow_build.specs.Answers.{pins_said, places_said, HasPlaceFault}
use Rattle.ice_flow_build.specs.Laid.{Task, task_of}
use Rattle.ice_flow_build.specs.Placements.{IsStuckOn, IsGivenUpOn}
use Rattle.ice_check.specs.Refusals.{IsFaultOf}
use Rattle.ice_check.specs.declared.fault.NetFault.TheVariants as net_fault
use Rattle.ice_chip.specs.Database.{Parts}
use Rattle.ice_chip.specs.declared.fault.ChipFault.{ChipFault}
use Rattle.ice_chip_read.specs.Whole.{chip_says}
use Rattle.ice_core.specs.declared.log.RoundLog.{RoundLog}
use Rattle.ice_net.specs.NetlistData.{NetlistData}
use Rattle.ice_pads.specs.Assign.{PadsData}
use Rattle.ice_pads.specs.declared.fault.PinFault.{PinFault}
use Rattle.ice_place.specs.declared.fault.PlaceFault.{PlaceFault}
use Rattle.ice_flow_sample_cmd.specs.SampleRows.{HasBlifFault, SaysNetlist, IsTried, IsOfSample}
use Rattle.ice_flow_sample_cmd.specs.Samples.{chip_text, net_text, package_name, sample_effort, IsAsked, Asks}
use Rattle.ice_flow_sample_cmd.specs.Standing.{IsEnd, PlacesStand, TaskStands, NetStands, BlifStands, StandsForSample}
use Rattle.ice_negotiate_defs.specs.declared.kept.Kept.{Kept}
use Rattle.ice_words.specs.Grips.{Shut}

-- ---- causes, by what is known of them
-- what is true of each answer behind pins and places without a fault
pub of_end : (P : Cause → Type 0) (task : Task) → ((arrangement : Arrangement) (tallies : Vec Shut) (kept : Vec Kept) → P (Good arrangement tallies kept)) → ((role : FileRole) (put : ℕ) → P (WriteFault role put))
    → ((arrangement : Arrangement) (net : NetNo) (sink : WireNo) → IsStuckOn task arrangement net sink → P (Unreachable arrangement net sink))
    → ((arrangement : Arrangement) (logs : Vec RoundLog) (tallies : Vec Shut) (kept : Vec Kept) → IsGivenUpOn task sample_effort arrangement kept.items logs.items tallies.items → P (GaveUp arrangement logs tallies kept))
    → (cause : Cause) → IsEnd task cause → P cause
of_end P task good cut stuck gave (Good arrangement tallies kept) is = good arrangement tallies kept
of_end P task good cut stuck gave Usage is = absurd is
of_end P task good cut stuck gave (BadBlif fault) is = absurd is
of_end P task good cut stuck gave (BadPcf fault) is = absurd is
of_end P task good cut stuck gave (BadChip fault) is = absurd is
of_end P task good cut stuck gave (BadNet fault) is = absurd is
of_end P task good cut stuck gave (BadPin fault) is = absurd is
of_end P task good cut stuck gave (Overfull fault) is = absurd is
of_end P task good cut stuck gave (Unreachable arrangement net sink) is = stuck arrangement net sink is
of_end P task good cut stuck gave (GaveUp arrangement logs tallies kept) is = gave arrangement logs tallies kept is
of_end P task good cut stuck gave (ReadFault role) is = absurd is
of_end P task good cut stuck gave (WriteFault role put) is = cut role put
of_end P task good cut stuck gave NoMemory is = absurd is
of_end P task good cut stuck gave (BadAsc fault) is = absurd is
of_end P task good cut stuck gave (BadBits fault) is = absurd is
of_end P task good cut stuck gave (TooLong role limit) is = absurd is
of_end P task good cut stuck gave (BadLevels line) is = absurd is
of_end P task good cut stuck gave (BadDelays line) is = absurd is

-- what is true of each answer behind pins and places, too
pub of_tried : (P : Cause → Type 0) → ((arrangement : Arrangement) (tallies : Vec Shut) (kept : Vec Kept) → P (Good arrangement tallies kept)) → ((role : FileRole) (put : ℕ) → P (WriteFault role put))
    → ((arrangement : Arrangement) (net : NetNo) (sink : WireNo) → P (Unreachable arrangement net sink)) → ((arrangement : Arrangement) (logs : Vec RoundLog) (tallies : Vec Shut) (kept : Vec Kept) → P (GaveUp arrangement logs tallies kept))
    → (cause : Cause) → IsTried cause → P cause
of_tried P good cut stuck gave (Good arrangement tallies kept) is = good arrangement tallies kept
of_tried P good cut stuck gave Usage is = absurd is
of_tried P good cut stuck gave (BadBlif fault) is = absurd is
of_tried P good cut stuck gave (BadPcf fault) is = absurd is
of_tried P good cut stuck gave (BadChip fault) is = absurd is
of_tried P good cut stuck gave (BadNet fault) is = absurd is
of_tried P good cut stuck gave (BadPin fault) is = absurd is
of_tried P good cut stuck gave (Overfull fault) is = absurd is
of_tried P good cut stuck gave (Unreachable arrangement net sink) is = stuck arrangement net sink
of_tried P good cut stuck gave (GaveUp arrangement logs tallies kept) is = gave arrangement logs tallies kept
of_tried P good cut stuck gave (ReadFault role) is = absurd is
of_tried P good cut stuck gave (WriteFault role put) is = cut role put
of_tried P good cut stuck gave NoMemory is = absurd is
of_tried P good cut stuck gave (BadAsc fault) is = absurd is
of_tried P good cut stuck gave (BadBits fault) is = absurd is
of_tried P good cut stuck gave (TooLong role limit) is = absurd is
of_tried P good cut stuck gave (BadLevels line) is = absurd is
of_tried P good cut stuck gave (BadDelays line) is = absurd is

-- ---- what is told
abbrev pub Told : ℕ → Cause → Type 0
Told number (Good arrangement tallies kept) = Unit {0}
Told number (WriteFault role put) = Unit {0}
Told number (BadChip fault) = chip_says chip_text ≡ Err fault
Told number (BadBlif fault) = HasBlifFault number fault
Told number (BadNet fault) = SaysNetlist number (λ circuit. IsFaultOf circuit fault × (fault ≢ net_fault.NoMemory))
Told number (BadPin fault) = Asks number (λ task. pins_said task ≡ Err fault)
Told number (Overfull fault) = Asks number (HasPlaceFault fault)
Told number (Unreachable arrangement net sink) = Asks number (λ task. IsStuckOn task arrangement net sink)
Told number (GaveUp arrangement logs tallies kept) = Asks number (λ task. IsGivenUpOn task sample_effort arrangement kept.items logs.items tallies.items)
Told number cause = ⊥

told_end : (number : ℕ) (task : Task) (cause : Cause) → IsAsked number task → IsEnd task cause → Told number cause
told_end number task cause asked m =
    of_end (Told number) task (λ arrangement tallies kept. tt) (λ role put. tt) (λ arrangement net sink stuck. record { task = task; is_asked = asked; is_so = stuck })
    (λ arrangement logs tallies kept given. record { task = task; is_asked = asked; is_so = given }) cause m

told_places : (number : ℕ) (task : Task) (pads : PadsData) (said : Result (List TileAt) PlaceFault) (cause : Cause) → IsAsked number task → pins_said task ≡ Ok pads → places_said task ≡ said
    → PlacesStand task cause → Told number cause
told_places number task pads (Err fault) cause asked pins is m =
    subst (Told number) (sym (fault_alone (places_said task) Overfull (λ first. IsEnd task) fault cause is m)) (record { task = task; is_asked = asked; is_so = (pads, pins, is) })
told_places number task pads (Ok first) cause asked pins is m = told_end number task cause asked (then_stands (places_said task) Overfull (λ found. IsEnd task) first cause is m)

told_pins : (number : ℕ) (task : Task) (said : Result PadsData PinFault) (cause : Cause) → IsAsked number task → pins_said task ≡ said → TaskStands task cause → Told number cause
told_pins number task (Err fault) cause asked is m =
    subst (Told number) (sym (fault_alone (pins_said task) BadPin (λ pads. PlacesStand task) fault cause is m)) (record { task = task; is_asked = asked; is_so = is })
told_pins number task (Ok pads) cause asked is m =
    told_places number task pads (places_said task) cause asked is refl (then_stands (pins_said task) BadPin (λ found. PlacesStand task) pads cause is m)

told_net : (number : ℕ) (parts : Parts) (circuit : NetlistData) (cause : Cause) → chip_says chip_text ≡ Ok parts → netlist_of (net_text number) ≡ Ok circuit → NetStands parts circuit cause
    → Told number cause
told_net number parts circuit cause chip e (inl bad) = subst (Told number) (sym bad.1) (record { parts = parts; circuit = circuit; is_chip = chip; is_circuit = e; is_so = (bad.2, bad.3) })
told_net number parts circuit cause chip e (inr good) =
    let task = task_of parts package_name [] circuit in
    let asked : IsAsked number task = record { is_chip = chip; is_name = refl; no_constraints = refl; is_circuit = e; is_sound = good.0; is_open = refl } in
    told_pins number task (pins_said task) cause asked refl good.1

told_blif : (number : ℕ) (parts : Parts) (said : Result NetlistData BlifFault) (cause : Cause) → chip_says chip_text ≡ Ok parts → netlist_of (net_text number) ≡ said → BlifStands number parts cause
    → Told number cause
told_blif number parts (Err fault) cause chip is m = subst (Told number) (sym (fault_alone (netlist_of (net_text number)) BadBlif (NetStands parts) fault cause is m)) (parts, chip, is)
told_blif number parts (Ok circuit) cause chip is m = told_net number parts circuit cause chip is (then_stands (netlist_of (net_text number)) BadBlif (NetStands parts) circuit cause is m)

told_chip : (number : ℕ) (said : Result Parts ChipFault) (cause : Cause) → chip_says chip_text ≡ said → StandsForSample number cause → Told number cause
told_chip number (Err fault) cause is m = subst (Told number) (sym (fault_alone (chip_says chip_text) BadChip (BlifStands number) fault cause is m)) is
told_chip number (Ok parts) cause is m = told_blif number parts (netlist_of (net_text number)) cause is refl (then_stands (chip_says chip_text) BadChip (BlifStands number) parts cause is m)

pub told : (number : ℕ) (cause : Cause) → StandsForSample number cause → Told number cause
told number cause m = told_chip number (chip_says chip_text) cause refl m

-- no other answer tells anything
pub told_sample : (number : ℕ) (cause : Cause) → Told number cause → IsOfSample cause
told_sample number (Good arrangement tallies kept) is = tt
told_sample number Usage is = absurd is
told_sample number (BadBlif fault) is = tt
told_sample number (BadPcf fault) is = absurd is
told_sample number (BadChip fault) is = tt
told_sample number (BadNet fault) is = tt
told_sample number (BadPin fault) is = tt
told_sample number (Overfull fault) is = tt
told_sample number (Unreachable arrangement net sink) is = tt
told_sample number (GaveUp arrangement logs tallies kept) is = tt
told_sample number (ReadFault role) is = absurd is
told_sample number (WriteFault role put) is = tt
told_sample number NoMemory is = absurd is
told_sample number (BadAsc fault) is = absurd is
told_sample number (BadBits fault) is = absurd is
told_sample number (TooLong role limit) is = absurd is
told_sample number (BadLevels line) is = absurd is
told_sample number (BadDelays line) is = absurd is
