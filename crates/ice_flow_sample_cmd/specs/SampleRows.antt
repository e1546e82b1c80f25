-- When each answer of `sample` comes: only where its cause is true, and always there, unless the memory fails. No file is read: the answer
-- is about the sample texts of the number.
use Rattle.std.specs.Prelude.{◌≡◌, ◌⊎◌, ℕ, true, List, ◌++◌, Ok, Err}
use Rattle.std.specs.Global.{Vec}
use Rattle.ice_flow_frame.specs.Tells.{IsAbout, TellsNetFault, TellsGood, TellsUnreachable, TellsGivenUp}
use Rattle.ice_flow_frame.specs.Rows.{GoodRow, WriteFaultRow}
use Rattle.ice_flow_frame.specs.declared.cause.Cause.{Cause}
use Rattle.ice_flow_frame.specs.declared.cause.Cause.TheVariants.{Good, BadBlif, BadChip, BadNet, BadPin, Overfull, Unreachable, GaveUp, WriteFault, NoMemory}
use Rattle.ice_flow_frame.specs.declared.cause.Done.{Done}
use Rattle.ice_base.specs.declared.number.NetNo.{NetNo}
use Rattle.ice_place.specs.declared.arrangement.Arrangement.{Arrangement}
use Rattle.ice_base.specs.declared.number.WireNo.{WireNo}
use Rattle.ice_blif.specs.Grammar.{netlist_of}
use Rattle.ice_blif.specs.declared.fault.BlifFault.{BlifFault}
use Rattle.ice_flow_build.specs.Answers.{pins_said, HasPlaceFault, IsPlaceable}
use Rattle.ice_flow_build.specs.Laid.{Task}
use Rattle.ice_flow_build.specs.Placements.{IsRoutedOn, IsStuckOn, IsGivenUpOn}
use Rattle.ice_check.specs.Refusals.{IsFaultOf}
use Rattle.ice_check.specs.Sound.{IsSound}
use Rattle.ice_check.specs.declared.fault.NetFault.{NetFault}
use Rattle.ice_chip.specs.Database.{Parts}
use Rattle.ice_chip.specs.declared.fault.ChipFault.{ChipFault}
use Rattle.ice_chip_read.specs.Whole.{chip_says}
use Rattle.ice_core.specs.declared.log.RoundLog.{RoundLog}
use Rattle.ice_desk.specs.Desk.{Meaning}
use Rattle.ice_net.specs.NetlistData.{NetlistData}
use Rattle.ice_pads.specs.declared.fault.PinFault.{PinFault}
use Rattle.ice_place.specs.declared.fault.PlaceFault.{PlaceFault}
use Rattle.ice_flow_sample_cmd.specs.Command.{sample}
use Rattle.ice_flow_sample_cmd.specs.Made.{IsSampled, IsToldOn}
use Rattle.ice_flow_sample_cmd.specs.Samples.{Sample, chip_text, net_text, sample_effort, Asks}
use Rattle.ice_flow_frame.specs.Told.{telling}
use Rattle.ice_negotiate_defs.specs.declared.kept.Kept.{Kept}
use Rattle.ice_words.specs.Grips.{Shut}

-- Such an answer comes only where this is so; and where it is so it always comes, unless the memory fails.
pub record Comes (IsSuch : Cause → Type 0) (IsSo : Type 0) (cause : Cause) : Type 0 where
  pub only : IsSuch cause → IsSo
  pub always : IsSo → IsSuch cause ⊎ (cause ≡ NoMemory)

-- ---- the texts
-- status 5: exactly where the chip's text has a fault, with the first one
abbrev pub ChipRow : Cause → Type 0
ChipRow cause = (fault : ChipFault) → Comes (λ c. c ≡ BadChip fault) (chip_says chip_text ≡ Err fault) cause

-- the chip's text says a chip, and the netlist's text has this first fault
abbrev pub HasBlifFault : ℕ → BlifFault → Type 0
HasBlifFault number fault = (parts : Parts) × (chip_says chip_text ≡ Ok parts) × (netlist_of (net_text number) ≡ Err fault)

-- status 3: exactly where there is a chip and the netlist's text has a fault, with the first one
abbrev pub BlifRow : ℕ → Cause → Type 0
BlifRow number cause = (fault : BlifFault) → Comes (λ c. c ≡ BadBlif fault) (HasBlifFault number fault) cause

-- the texts say a chip, and a netlist of which this is true
pub record SaysNetlist (number : ℕ) (IsSo : NetlistData → Type 0) : Type 0 where
  pub parts : Parts
  pub circuit : NetlistData
  pub is_chip : chip_says chip_text ≡ Ok parts
  pub is_circuit : netlist_of (net_text number) ≡ Ok circuit
  pub is_so : IsSo circuit

-- status 6: exactly where the netlist isn't sound, with a fault that it has and that is looked for before the others
pub record NetRow (number : ℕ) (cause : Cause) : Type 0 where
  pub comes : Comes TellsNetFault (SaysNetlist number (λ circuit. IsSound circuit → ⊥)) cause
  pub fault_is : (fault : NetFault) → cause ≡ BadNet fault → SaysNetlist number (λ circuit. IsFaultOf circuit fault)

-- ---- pins and places
-- status 7: exactly where the pins have a fault, with this one
abbrev pub PinRow : ℕ → Cause → Type 0
PinRow number cause = (fault : PinFault) → Comes (λ c. c ≡ BadPin fault) (Asks number (λ task. pins_said task ≡ Err fault)) cause

-- status 8: exactly where the pins have no fault and the places have one, with this one
abbrev pub PlaceRow : ℕ → Cause → Type 0
PlaceRow number cause = (fault : PlaceFault) → Comes (λ c. c ≡ Overfull fault) (Asks number (HasPlaceFault fault)) cause

-- ---- what is routed
-- the work is done, or a fault of writing came in between; or a sink can't be reached, or the permitted rounds all end with an overused
-- wire
abbrev pub IsTried : Cause → Type 0
IsTried (Good arrangement tallies kept) = Unit {0}
IsTried (WriteFault role put) = Unit {0}
IsTried (Unreachable arrangement net sink) = Unit {0}
IsTried (GaveUp arrangement logs tallies kept) = Unit {0}
IsTried cause = ⊥

-- one of the statuses 0, 9, 10 and 12: exactly where neither the pins nor the places have a fault
abbrev pub TriedRow : ℕ → Cause → Type 0
TriedRow number cause = Comes IsTried (Asks number IsPlaceable) cause

-- Such an answer that tells an arrangement comes only where this is true of the arrangement; and where it is true of the arrangement that the
-- answer tells, the answer is such a one.
pub record ComesOn (number : ℕ) (IsSuch : Cause → Type 0) (IsSo : Arrangement → Task → Type 0) (cause : Cause) : Type 0 where
  pub only : (arrangement : Arrangement) → IsAbout arrangement cause → IsSuch cause → Asks number (IsSo arrangement)
  pub always : (arrangement : Arrangement) → IsAbout arrangement cause → Asks number (IsSo arrangement) → IsSuch cause

-- status 0: exactly where the nets are routed with the arrangement that is told; with the tallies of their rounds
pub record RoutedRow (number : ℕ) (cause : Cause) : Type 0 where
  pub comes : ComesOn number TellsGood (λ arrangement task. IsRoutedOn task sample_effort arrangement) cause
  pub told_is : (arrangement : Arrangement) (tallies : Vec Shut) (kept : Vec Kept) → cause ≡ Good arrangement tallies kept → Asks number (λ task. IsToldOn task arrangement (telling tallies kept))

-- status 9: exactly where a sink can't be reached with the arrangement that is told, with the first one
abbrev pub UnreachableRow : ℕ → Cause → Type 0
UnreachableRow number cause = (net : NetNo) (sink : WireNo) → ComesOn number (TellsUnreachable net sink) (λ arrangement task. IsStuckOn task arrangement net sink) cause

-- status 10: exactly where with the arrangement that is told each permitted round ends with an overused wire; with the logs and
-- the tallies of these rounds
pub record GaveUpRow (number : ℕ) (cause : Cause) : Type 0 where
  pub comes : ComesOn number TellsGivenUp (λ arrangement task. (kept : List Kept) × (logs : List RoundLog) × (tallies : List Shut) × IsGivenUpOn task sample_effort arrangement kept logs tallies) cause
  pub logs_are : (arrangement : Arrangement) (logs : Vec RoundLog) (tallies : Vec Shut) (kept : Vec Kept) → cause ≡ GaveUp arrangement logs tallies kept
      → Asks number (λ task. IsGivenUpOn task sample_effort arrangement kept.items logs.items tallies.items)

-- there are no other answers
abbrev pub IsOfSample : Cause → Type 0
IsOfSample (BadChip fault) = Unit {0}
IsOfSample (BadBlif fault) = Unit {0}
IsOfSample (BadNet fault) = Unit {0}
IsOfSample (BadPin fault) = Unit {0}
IsOfSample (Overfull fault) = Unit {0}
IsOfSample NoMemory = Unit {0}
IsOfSample cause = IsTried cause

-- ---- what is said
-- status 0: where the desk tells its contents, exactly the summary was said
abbrev pub SummaryRow : ℕ → Meaning → Meaning → Cause → ℕ → Type 0
SummaryRow number old new cause status =
    status ≡ 0 → old.tells ≡ true
    → (arrangement : Arrangement) × (tallies : Vec Shut) × (kept : Vec Kept) × (text : List ℕ) × (cause ≡ Good arrangement tallies kept) × (new.said ≡ old.said ++ text) × IsSampled number text arrangement (telling tallies kept)

-- ---- all of them
-- The end of `sample`, where the desk was seen as `old` before and is seen as `new` after.
pub record IsSampleAnswer (s : Sample) (old new : Meaning) (end : Done) : Type 0 where
  pub summed_up : SummaryRow s.number old new end.cause end.status
  pub good : GoodRow (sample s) old new end.cause end.status
  pub routed : RoutedRow s.number end.cause
  pub bad_chip : ChipRow end.cause
  pub bad_blif : BlifRow s.number end.cause
  pub bad_net : NetRow s.number end.cause
  pub bad_pin : PinRow s.number end.cause
  pub overfull : PlaceRow s.number end.cause
  pub tried : TriedRow s.number end.cause
  pub unreachable : UnreachableRow s.number end.cause
  pub gave_up : GaveUpRow s.number end.cause
  pub write_fault : WriteFaultRow (sample s) old new end.cause
  pub no_others : IsOfSample end.cause
