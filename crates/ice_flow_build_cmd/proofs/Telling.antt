-- What each cause of `build` tells of the texts.
use Rattle.std.proofs.Common.{◌≡◌, ◌≢◌, ◌∙◌, ℕ, List, [], Result, Ok, Err, inl, inr, refl, sym, ap, subst}
use Rattle.std.specs.Global.{Vec}
use Rattle.ice_base.specs.declared.number.NetNo.{NetNo}
use Rattle.ice_base.specs.declared.number.TileAt.{TileAt}
use Rattle.ice_place.specs.declared.arrangement.Arrangement.{Arrangement}
use Rattle.ice_base.specs.declared.number.WireNo.{WireNo}
use Rattle.ice_net.specs.NetlistData.{NetlistData}
use Rattle.ice_ram_read.specs.ClosedNetlists.{ClosedNetlistData, closed_netlist_of}
use Rattle.ice_blif.specs.declared.fault.BlifFault.{BlifFault}
use Rattle.ice_check.specs.Refusals.{IsFaultOf}
use Rattle.ice_check.specs.Sound.{IsSound}
use Rattle.ice_check.specs.declared.fault.NetFault.TheVariants as net_fault
use Rattle.ice_chip.specs.Database.{Parts}
use Rattle.ice_chip.specs.declared.fault.ChipFault.{ChipFault}
use Rattle.ice_chip_read.specs.Whole.{chip_says}
use Rattle.ice_core.specs.declared.log.RoundLog.{RoundLog}
use Rattle.ice_decode.specs.declared.fault.DecodeFault.{DecodeFault}
use Rattle.ice_pads.specs.Assign.{PadsData}
use Rattle.ice_pads.specs.declared.fault.PinFault.{PinFault}
use Rattle.ice_pcf.specs.Grammar.{pin_text_says}
use Rattle.ice_pcf.specs.declared.constraint.Constraint.{Constraint}
use Rattle.ice_pcf.specs.declared.fault.PcfFault.{PcfFault}
use Rattle.ice_place.specs.declared.fault.PlaceFault.{PlaceFault}
use Rattle.ice_flow_prepare.specs.Prepared.{prepared_on}
use Rattle.ice_flow_build.specs.declared.answer.Effort.{Effort}
use Rattle.ice_negotiate_defs.specs.declared.kept.Kept.{Kept}
use Rattle.ice_words.specs.Grips.{Shut}
use Rattle.ice_flow_build.specs.Answers.{pins_said, places_said, HasBadBits, HasPlaceFault}
use Rattle.ice_flow_build.specs.Laid.{Task, task_of}
use Rattle.ice_flow_frame.specs.declared.cause.Cause.{Cause}
use Rattle.ice_flow_frame.specs.declared.cause.Cause.TheVariants.{Good, Usage, BadBlif, BadPcf, BadChip, BadNet, BadPin, Overfull, Unreachable, GaveUp, ReadFault, WriteFault, NoMemory, BadAsc, BadBits, TooLong, BadLevels, BadDelays}
use Rattle.ice_flow_frame.specs.declared.cause.FileRole.{FileRole}
use Rattle.ice_flow_frame.specs.Texts.{text_at}
use Rattle.ice_flow_frame.proofs.Standings.{fault_alone, then_stands}
use Rattle.ice_flow_chip_frame.specs.Standing.{HasChipFault}
use Rattle.ice_flow_build_cmd.specs.Asked.{IsAsked, Asks}
use Rattle.ice_flow_build_cmd.specs.BuildRows.{HasPcfFault, HasBlifFault, IsRead, SaysNetlist, HasPinFault, IsTried}
use Rattle.ice_flow_build_cmd.specs.Made.{IsStuckOn, IsGivenUpOn}
use Rattle.ice_flow_build_cmd.specs.Rams.{rams_said}
use Rattle.ice_flow_build_cmd.specs.Standing.{IsEnd, PlacesStand, TaskStands, RamsStand, NetStands, BlifStands, PcfStands, StandsForBuild}
use Rattle.ice_flow_build_cmd.proofs.Unclosed.{no_rams}

-- ---- causes, by what is known of them
-- what is true of each answer behind pins and places without a fault
pub of_end : (P : Cause → Type 0) (task : Task) (effort : Effort) → ((arrangement : Arrangement) (tallies : Vec Shut) (kept : Vec Kept) → P (Good arrangement tallies kept)) → ((role : FileRole) (put : ℕ) → P (WriteFault role put))
    → ((arrangement : Arrangement) (net : NetNo) (sink : WireNo) → IsStuckOn task arrangement net sink → P (Unreachable arrangement net sink))
    → ((arrangement : Arrangement) (logs : Vec RoundLog) (tallies : Vec Shut) (kept : Vec Kept) → IsGivenUpOn task effort arrangement kept.items logs.items tallies.items → P (GaveUp arrangement logs tallies kept))
    → ((fault : DecodeFault) → HasBadBits task effort fault → P (BadBits fault)) → (cause : Cause) → IsEnd task effort cause → P cause
of_end P task effort good cut stuck gave bits (Good arrangement tallies kept) is = good arrangement tallies kept
of_end P task effort good cut stuck gave bits Usage is = absurd is
of_end P task effort good cut stuck gave bits (BadBlif fault) is = absurd is
of_end P task effort good cut stuck gave bits (BadPcf fault) is = absurd is
of_end P task effort good cut stuck gave bits (BadChip fault) is = absurd is
of_end P task effort good cut stuck gave bits (BadNet fault) is = absurd is
of_end P task effort good cut stuck gave bits (BadPin fault) is = absurd is
of_end P task effort good cut stuck gave bits (Overfull fault) is = absurd is
of_end P task effort good cut stuck gave bits (Unreachable arrangement net sink) is = stuck arrangement net sink is
of_end P task effort good cut stuck gave bits (GaveUp arrangement logs tallies kept) is = gave arrangement logs tallies kept is
of_end P task effort good cut stuck gave bits (ReadFault role) is = absurd is
of_end P task effort good cut stuck gave bits (WriteFault role put) is = cut role put
of_end P task effort good cut stuck gave bits NoMemory is = absurd is
of_end P task effort good cut stuck gave bits (BadAsc fault) is = absurd is
of_end P task effort good cut stuck gave bits (BadBits fault) is = bits fault is
of_end P task effort good cut stuck gave bits (TooLong role limit) is = absurd is
of_end P task effort good cut stuck gave bits (BadLevels line) is = absurd is
of_end P task effort good cut stuck gave bits (BadDelays line) is = absurd is

-- what is true of each answer behind pins and places, too
pub of_tried : (P : Cause → Type 0) → ((arrangement : Arrangement) (tallies : Vec Shut) (kept : Vec Kept) → P (Good arrangement tallies kept)) → ((role : FileRole) (put : ℕ) → P (WriteFault role put))
    → ((arrangement : Arrangement) (net : NetNo) (sink : WireNo) → P (Unreachable arrangement net sink)) → ((arrangement : Arrangement) (logs : Vec RoundLog) (tallies : Vec Shut) (kept : Vec Kept) → P (GaveUp arrangement logs tallies kept))
    → ((fault : DecodeFault) → P (BadBits fault)) → (cause : Cause) → IsTried cause → P cause
of_tried P good cut stuck gave bits (Good arrangement tallies kept) is = good arrangement tallies kept
of_tried P good cut stuck gave bits Usage is = absurd is
of_tried P good cut stuck gave bits (BadBlif fault) is = absurd is
of_tried P good cut stuck gave bits (BadPcf fault) is = absurd is
of_tried P good cut stuck gave bits (BadChip fault) is = absurd is
of_tried P good cut stuck gave bits (BadNet fault) is = absurd is
of_tried P good cut stuck gave bits (BadPin fault) is = absurd is
of_tried P good cut stuck gave bits (Overfull fault) is = absurd is
of_tried P good cut stuck gave bits (Unreachable arrangement net sink) is = stuck arrangement net sink
of_tried P good cut stuck gave bits (GaveUp arrangement logs tallies kept) is = gave arrangement logs tallies kept
of_tried P good cut stuck gave bits (ReadFault role) is = absurd is
of_tried P good cut stuck gave bits (WriteFault role put) is = cut role put
of_tried P good cut stuck gave bits NoMemory is = absurd is
of_tried P good cut stuck gave bits (BadAsc fault) is = absurd is
of_tried P good cut stuck gave bits (BadBits fault) is = bits fault
of_tried P good cut stuck gave bits (TooLong role limit) is = absurd is
of_tried P good cut stuck gave bits (BadLevels line) is = absurd is
of_tried P good cut stuck gave bits (BadDelays line) is = absurd is

-- ---- what is told
abbrev pub Told : List ℕ → Effort → List (List ℕ) → Cause → Type 0
Told name effort t (Good arrangement tallies kept) = Unit {0}
Told name effort t (WriteFault role put) = Unit {0}
Told name effort t (BadChip fault) = HasChipFault fault t
Told name effort t (BadPcf fault) = HasPcfFault fault t
Told name effort t (BadBlif fault) = HasBlifFault fault t
Told name effort t (BadNet fault) = SaysNetlist (λ circuit. IsFaultOf circuit.netlist fault × (fault ≢ net_fault.NoMemory)) t
Told name effort t (BadPin fault) = HasPinFault name fault t
Told name effort t (Overfull fault) = Asks name (HasPlaceFault fault) t
Told name effort t (Unreachable arrangement net sink) = Asks name (λ task. IsStuckOn task arrangement net sink) t
Told name effort t (GaveUp arrangement logs tallies kept) = Asks name (λ task. IsGivenUpOn task effort arrangement kept.items logs.items tallies.items) t
Told name effort t (BadBits fault) = Asks name (λ task. HasBadBits task effort fault) t
Told name effort t cause = ⊥

told_end : (name : List ℕ) (effort : Effort) (t : List (List ℕ)) (task : Task) (cause : Cause) → IsAsked name t task → IsEnd task effort cause → Told name effort t cause
told_end name effort t task cause asked m =
    of_end (Told name effort t) task effort (λ arrangement tallies kept. tt) (λ role put. tt) (λ arrangement net sink stuck. record { task = task; is_asked = asked; is_so = stuck })
    (λ arrangement logs tallies kept given. record { task = task; is_asked = asked; is_so = given }) (λ fault is. record { task = task; is_asked = asked; is_so = is }) cause m

told_places : (name : List ℕ) (effort : Effort) (t : List (List ℕ)) (task : Task) (pads : PadsData) (said : Result (List TileAt) PlaceFault) (cause : Cause) → IsAsked name t task
    → pins_said task ≡ Ok pads → places_said task ≡ said → PlacesStand task effort cause → Told name effort t cause
told_places name effort t task pads (Err fault) cause asked pins is m =
    subst (Told name effort t) (sym (fault_alone (places_said task) Overfull (λ first. IsEnd task effort) fault cause is m)) (record { task = task; is_asked = asked; is_so = (pads, pins, is) })
told_places name effort t task pads (Ok first) cause asked pins is m =
    told_end name effort t task cause asked (then_stands (places_said task) Overfull (λ found. IsEnd task effort) first cause is m)

told_pins : (name : List ℕ) (effort : Effort) (t : List (List ℕ)) (task : Task) (said : Result PadsData PinFault) (cause : Cause) → IsAsked name t task → pins_said task ≡ said
    → TaskStands task effort cause → Told name effort t cause
told_pins name effort t task (Err fault) cause asked is m =
    subst (Told name effort t) (sym (fault_alone (pins_said task) BadPin (λ pads. PlacesStand task effort) fault cause is m)) (inr (record { task = task; is_asked = asked; is_so = is }))
told_pins name effort t task (Ok pads) cause asked is m =
    told_places name effort t task pads (places_said task) cause asked is refl (then_stands (pins_said task) BadPin (λ found. PlacesStand task effort) pads cause is m)

told_rams : (name : List ℕ) (effort : Effort) (t : List (List ℕ)) (parts : Parts) (constraints : List Constraint) (circuit : ClosedNetlistData) (said : Result NetlistData PinFault) (cause : Cause)
    → IsRead t parts constraints → closed_netlist_of (text_at t 3) ≡ Ok circuit → IsSound circuit.netlist → rams_said circuit ≡ said → RamsStand name effort parts constraints circuit cause
    → Told name effort t cause
told_rams name effort t parts constraints circuit (Err fault) cause read e sound is m =
    subst (Told name effort t) (sym (fault_alone (rams_said circuit) BadPin (λ netlist. TaskStands (task_of parts name constraints (prepared_on parts netlist [])) effort) fault cause is m))
    (inl (record { parts = parts; constraints = constraints; circuit = circuit; is_read = read; is_circuit = e; is_so = (sound, is) }))
told_rams name effort t parts constraints circuit (Ok netlist) cause read e sound is m =
    let none = no_rams (text_at t 3) circuit netlist e is in
    let task = task_of parts name constraints (prepared_on parts netlist []) in
    let asked : IsAsked name t task = record { circuit = netlist; is_chip = read.is_chip; is_name = refl; are_constraints = read.are_constraints; is_circuit = e ∙ ap Ok none.1; is_sound = subst IsSound none.0 sound; is_prepared = refl; is_open = refl } in
    told_pins name effort t task (pins_said task) cause asked refl
    (then_stands (rams_said circuit) BadPin (λ found. TaskStands (task_of parts name constraints (prepared_on parts found [])) effort) netlist cause is m)

told_net : (name : List ℕ) (effort : Effort) (t : List (List ℕ)) (parts : Parts) (constraints : List Constraint) (circuit : ClosedNetlistData) (cause : Cause) → IsRead t parts constraints
    → closed_netlist_of (text_at t 3) ≡ Ok circuit → NetStands name effort parts constraints circuit cause → Told name effort t cause
told_net name effort t parts constraints circuit cause read e (inl bad) = subst (Told name effort t) (sym bad.1) (record { parts = parts; constraints = constraints; circuit = circuit; is_read = read; is_circuit = e; is_so = (bad.2, bad.3) })
told_net name effort t parts constraints circuit cause read e (inr good) = told_rams name effort t parts constraints circuit (rams_said circuit) cause read e good.0 refl good.1

told_blif : (name : List ℕ) (effort : Effort) (t : List (List ℕ)) (parts : Parts) (constraints : List Constraint) (said : Result ClosedNetlistData BlifFault) (cause : Cause) → IsRead t parts constraints
    → closed_netlist_of (text_at t 3) ≡ said → BlifStands name effort (text_at t 3) parts constraints cause → Told name effort t cause
told_blif name effort t parts constraints (Err fault) cause read is m =
    subst (Told name effort t) (sym (fault_alone (closed_netlist_of (text_at t 3)) BadBlif (NetStands name effort parts constraints) fault cause is m)) (parts, constraints, read, is)
told_blif name effort t parts constraints (Ok circuit) cause read is m =
    told_net name effort t parts constraints circuit cause read is (then_stands (closed_netlist_of (text_at t 3)) BadBlif (NetStands name effort parts constraints) circuit cause is m)

told_pcf : (name : List ℕ) (effort : Effort) (t : List (List ℕ)) (parts : Parts) (said : Result (List Constraint) PcfFault) (cause : Cause) → chip_says (text_at t 1) ≡ Ok parts
    → pin_text_says (text_at t 2) ≡ said → PcfStands name effort (text_at t 2) (text_at t 3) parts cause → Told name effort t cause
told_pcf name effort t parts (Err fault) cause chip is m =
    subst (Told name effort t) (sym (fault_alone (pin_text_says (text_at t 2)) BadPcf (BlifStands name effort (text_at t 3) parts) fault cause is m)) (parts, chip, is)
told_pcf name effort t parts (Ok constraints) cause chip is m =
    told_blif name effort t parts constraints (closed_netlist_of (text_at t 3)) cause (record { is_chip = chip; are_constraints = is }) refl
    (then_stands (pin_text_says (text_at t 2)) BadPcf (BlifStands name effort (text_at t 3) parts) constraints cause is m)

told_chip : (name : List ℕ) (effort : Effort) (t : List (List ℕ)) (said : Result Parts ChipFault) (cause : Cause) → chip_says (text_at t 1) ≡ said → StandsForBuild name effort t cause → Told name effort t cause
told_chip name effort t (Err fault) cause is m =
    subst (Told name effort t) (sym (fault_alone (chip_says (text_at t 1)) BadChip (PcfStands name effort (text_at t 2) (text_at t 3)) fault cause is m)) is
told_chip name effort t (Ok parts) cause is m =
    told_pcf name effort t parts (pin_text_says (text_at t 2)) cause is refl (then_stands (chip_says (text_at t 1)) BadChip (PcfStands name effort (text_at t 2) (text_at t 3)) parts cause is m)

pub told : (name : List ℕ) (effort : Effort) (t : List (List ℕ)) (cause : Cause) → StandsForBuild name effort t cause → Told name effort t cause
told name effort t cause m = told_chip name effort t (chip_says (text_at t 1)) cause refl m
