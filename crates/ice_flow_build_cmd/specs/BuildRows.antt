-- When each answer of `build` comes: only where its cause is true, and always there, unless the desk or the memory fails. The other
-- answers come as those of every command.
use Rattle.std.specs.Prelude.{◌≡◌, ◌≢◌, ◌⊎◌, ℕ, true, Some, List, Ok, Err}
use Rattle.std.specs.Global.{Vec}
use Rattle.ice_base.specs.declared.number.NetNo.{NetNo}
use Rattle.ice_place.specs.declared.arrangement.Arrangement.{Arrangement}
use Rattle.ice_base.specs.declared.number.WireNo.{WireNo}
use Rattle.ice_asc.specs.Text.{asc_text}
use Rattle.ice_desk.specs.Desk.{Meaning}
use Rattle.ice_ram_read.specs.ClosedNetlists.{ClosedNetlistData, closed_netlist_of}
use Rattle.ice_blif.specs.declared.fault.BlifFault.{BlifFault}
use Rattle.ice_check.specs.Refusals.{IsFaultOf}
use Rattle.ice_check.specs.Sound.{IsSound}
use Rattle.ice_check.specs.declared.fault.NetFault.{NetFault}
use Rattle.ice_chip.specs.Database.{Parts}
use Rattle.ice_chip.specs.declared.fault.ChipFault.{ChipFault}
use Rattle.ice_chip_read.specs.Whole.{chip_says}
use Rattle.ice_core.specs.declared.log.RoundLog.{RoundLog}
use Rattle.ice_decode.specs.declared.fault.DecodeFault.{DecodeFault}
use Rattle.ice_pads.specs.declared.fault.PinFault.{PinFault}
use Rattle.ice_pcf.specs.Grammar.{pin_text_says}
use Rattle.ice_pcf.specs.declared.constraint.Constraint.{Constraint}
use Rattle.ice_pcf.specs.declared.fault.PcfFault.{PcfFault}
use Rattle.ice_place.specs.declared.fault.PlaceFault.{PlaceFault}
use Rattle.ice_report.specs.PinReport.{pin_text}
use Rattle.ice_negotiate_defs.specs.declared.kept.Kept.{Kept}
use Rattle.ice_words.specs.Grips.{Shut}
use Rattle.ice_flow_build.specs.Answers.{HasBadBits, pins_said, HasPlaceFault, IsPlaceable}
use Rattle.ice_flow_build.specs.Laid.{Task}
use Rattle.ice_flow_frame.specs.declared.cause.Cause.{Cause}
use Rattle.ice_flow_frame.specs.declared.cause.Cause.TheVariants.{Good, BadBlif, BadPcf, BadChip, BadNet, BadPin, Overfull, Unreachable, GaveUp, WriteFault, BadBits}
use Rattle.ice_flow_frame.specs.declared.cause.Done.{Done}
use Rattle.ice_flow_frame.specs.Rows.{ComesExactly, ReadFaultRow, WriteFaultRow, TooLongRow, IsLeftIn}
use Rattle.ice_flow_frame.specs.Tells.{IsAbout, TellsNetFault, TellsGood, TellsUnreachable, TellsGivenUp}
use Rattle.ice_flow_frame.specs.Told.{Told, telling}
use Rattle.ice_flow_frame.specs.Texts.{OfTexts, HoldsTexts, text_at}
use Rattle.ice_flow_chip_frame.specs.Standing.{HasChipFault}
use Rattle.ice_flow_build_cmd.specs.Asked.{Build, files_of, Asks, effort_of}
use Rattle.ice_flow_build_cmd.specs.Command.{build_files}
use Rattle.ice_flow_build_cmd.specs.Headline.{IsApart}
use Rattle.ice_flow_build_cmd.specs.Made.{IsMadeByBuild, IsBuiltOn, IsToldOn, IsStuckOn, IsGivenUpOn, IsGivenUpIn}
use Rattle.ice_flow_build_cmd.specs.Rams.{rams_said}
use Rattle.ice_flow_build_cmd.specs.Reports.{routes_text}

-- ---- the texts
-- status 5: exactly where the chip text has a fault, with the first one
abbrev pub ChipRow : Build → Meaning → Cause → Type 0
ChipRow b old cause = (fault : ChipFault) → ComesExactly (build_files b) old (λ c. c ≡ BadChip fault) (HasChipFault fault) cause

-- the chip text says a chip, and the text of the pins has this first fault
abbrev pub HasPcfFault : PcfFault → List (List ℕ) → Type 0
HasPcfFault fault texts = (parts : Parts) × (chip_says (text_at texts 1) ≡ Ok parts) × (pin_text_says (text_at texts 2) ≡ Err fault)

-- status 4: exactly where there is a chip and the text of the pins has a fault, with the first one
abbrev pub PcfRow : Build → Meaning → Cause → Type 0
PcfRow b old cause = (fault : PcfFault) → ComesExactly (build_files b) old (λ c. c ≡ BadPcf fault) (HasPcfFault fault) cause

-- the first text says this chip, and the second these constraints
pub record IsRead (texts : List (List ℕ)) (parts : Parts) (constraints : List Constraint) : Type 0 where
  pub is_chip : chip_says (text_at texts 1) ≡ Ok parts
  pub are_constraints : pin_text_says (text_at texts 2) ≡ Ok constraints

-- they say a chip and constraints, and the netlist's text has this first fault
abbrev pub HasBlifFault : BlifFault → List (List ℕ) → Type 0
HasBlifFault fault texts = (parts : Parts) × (constraints : List Constraint) × IsRead texts parts constraints × (closed_netlist_of (text_at texts 3) ≡ Err fault)

-- status 3: exactly where there are a chip and constraints and the netlist's text has a fault, with the first one
abbrev pub BlifRow : Build → Meaning → Cause → Type 0
BlifRow b old cause = (fault : BlifFault) → ComesExactly (build_files b) old (λ c. c ≡ BadBlif fault) (HasBlifFault fault) cause

-- ---- the netlist
-- the texts say a chip and constraints, and a netlist of which this is true
pub record SaysNetlist (IsSo : ClosedNetlistData → Type 0) (texts : List (List ℕ)) : Type 0 where
  pub parts : Parts
  pub constraints : List Constraint
  pub circuit : ClosedNetlistData
  pub is_read : IsRead texts parts constraints
  pub is_circuit : closed_netlist_of (text_at texts 3) ≡ Ok circuit
  pub is_so : IsSo circuit

-- status 6: exactly where the netlist isn't sound, with a fault that it has and that is looked for before the others
pub record NetRow (b : Build) (old : Meaning) (cause : Cause) : Type 0 where
  pub comes : ComesExactly (build_files b) old TellsNetFault (SaysNetlist (λ circuit. IsSound circuit.netlist → ⊥)) cause
  pub fault_is : (fault : NetFault) → cause ≡ BadNet fault → OfTexts (files_of b) old (SaysNetlist (λ circuit. IsFaultOf circuit.netlist fault))

-- ---- pins and places
-- the netlist is sound and this fault is that it has RAMs; or it has none, and the pins have this fault
abbrev pub HasPinFault : List ℕ → PinFault → List (List ℕ) → Type 0
HasPinFault name fault texts = SaysNetlist (λ circuit. IsSound circuit.netlist × (rams_said circuit ≡ Err fault)) texts ⊎ Asks name (λ task. pins_said task ≡ Err fault) texts

-- status 7: exactly where there are RAMs or the pins have a fault, with this one
abbrev pub PinRow : Build → Meaning → Cause → Type 0
PinRow b old cause = (fault : PinFault) → ComesExactly (build_files b) old (λ c. c ≡ BadPin fault) (HasPinFault b.package_name fault) cause

-- status 8: exactly where the pins have no fault and the places have one, with this one
abbrev pub PlaceRow : Build → Meaning → Cause → Type 0
PlaceRow b old cause = (fault : PlaceFault) → ComesExactly (build_files b) old (λ c. c ≡ Overfull fault) (Asks b.package_name (HasPlaceFault fault)) cause

-- ---- what is built
-- the work is done, or a fault of writing came in between; or a sink can't be reached, the permitted rounds all end with an overused
-- wire, or the bits have no circuit
abbrev pub IsTried : Cause → Type 0
IsTried (Good arrangement tallies kept) = Unit {0}
IsTried (WriteFault role put) = Unit {0}
IsTried (Unreachable arrangement net sink) = Unit {0}
IsTried (GaveUp arrangement logs tallies kept) = Unit {0}
IsTried (BadBits fault) = Unit {0}
IsTried cause = ⊥

-- one of the statuses 0, 9, 10, 12 and 15: exactly where neither the pins nor the places have a fault
abbrev pub TriedRow : Build → Meaning → Cause → Type 0
TriedRow b old cause = ComesExactly (build_files b) old IsTried (Asks b.package_name IsPlaceable) cause

-- Such an answer that tells an arrangement comes only where this is true of the arrangement; and where it is true of the arrangement that the
-- answer tells, the answer is such a one.
pub record ComesOn (b : Build) (old : Meaning) (IsSuch : Cause → Type 0) (IsSo : Arrangement → Task → Type 0) (cause : Cause) : Type 0 where
  pub only : (arrangement : Arrangement) → IsAbout arrangement cause → IsSuch cause → OfTexts (files_of b) old (Asks b.package_name (IsSo arrangement))
  pub always : (arrangement : Arrangement) (texts : List (List ℕ)) → IsAbout arrangement cause → HoldsTexts (files_of b) old texts → Asks b.package_name (IsSo arrangement) texts → IsSuch cause

-- status 0: exactly where the nets are routed with the arrangement that is told; with the tallies of their rounds and what the opening left of them
pub record BuiltRow (b : Build) (old : Meaning) (cause : Cause) : Type 0 where
  pub comes : ComesOn b old TellsGood (λ arrangement task. IsBuiltOn task (effort_of b) arrangement) cause
  pub told_is : (arrangement : Arrangement) (tallies : Vec Shut) (kept : Vec Kept) → cause ≡ Good arrangement tallies kept
      → OfTexts (files_of b) old (Asks b.package_name (λ task. IsToldOn task (effort_of b) arrangement (telling tallies kept)))

-- status 9: exactly where a sink can't be reached with the arrangement that is told, with the first one
abbrev pub UnreachableRow : Build → Meaning → Cause → Type 0
UnreachableRow b old cause = (net : NetNo) (sink : WireNo) → ComesOn b old (TellsUnreachable net sink) (λ arrangement task. IsStuckOn task arrangement net sink) cause

-- status 10: exactly where with the arrangement that is told each permitted round ends with an overused wire; with the logs and
-- the tallies of these rounds, and what the opening left of the nets
pub record GaveUpRow (b : Build) (old : Meaning) (cause : Cause) : Type 0 where
  pub comes : ComesOn b old TellsGivenUp (λ arrangement task. (kept : List Kept) × (logs : List RoundLog) × (tallies : List Shut) × IsGivenUpOn task (effort_of b) arrangement kept logs tallies) cause
  pub logs_are : (arrangement : Arrangement) (logs : Vec RoundLog) (tallies : Vec Shut) (kept : Vec Kept) → cause ≡ GaveUp arrangement logs tallies kept
      → OfTexts (files_of b) old (Asks b.package_name (λ task. IsGivenUpOn task (effort_of b) arrangement kept.items logs.items tallies.items))

-- status 15: only where the bits that would be written have this fault, and only on a chip whose globals feed each other in a ring
abbrev pub BitsRow : Build → Meaning → Cause → Type 0
BitsRow b old cause = (fault : DecodeFault) → cause ≡ BadBits fault → OfTexts (files_of b) old (Asks b.package_name (λ task. HasBadBits task (effort_of b) fault))

-- ---- what is written
-- Of the texts that the files hold this is built, with this arrangement, of whose routing this is told; and what is written tells of it, each
-- file unless a later one has the same name: the text of its bits, the report on the pins of the netlist read, and the report on the
-- rounds that led to these bits.
pub record IsWritten (b : Build) (old new : Meaning) (arrangement : Arrangement) (told : Told) : Type 0 where
  pub texts : List (List ℕ)
  pub made : List (List ℕ)
  pub hold : HoldsTexts (files_of b) old texts
  pub of : IsMadeByBuild b texts made arrangement told
  pub bits : IsApart b → new.files b.asc ≡ Some (asc_text of.task.parts of.built.bits)
  pub pins : (name : List ℕ) → b.pins ≡ Some name → b.report ≢ Some name → new.files name ≡ Some (pin_text of.is_asked.circuit of.bonded of.built.layout.pads.ports)
  pub report : (name : List ℕ) → b.report ≡ Some name → new.files name ≡ Some (routes_text of.task.parts of.built.layout of.built.routed.logs.items true)

-- status 0: where the desk tells its contents, what the files hold, of the build with the arrangement, the tallies and what the opening left, as they are told
abbrev pub WrittenRow : Build → Meaning → Meaning → Cause → Type 0
WrittenRow b old new cause = (arrangement : Arrangement) (tallies : Vec Shut) (kept : Vec Kept) → cause ≡ Good arrangement tallies kept → old.tells ≡ true → IsWritten b old new arrangement (telling tallies kept)

-- Of the texts that the files hold this is the report on the rounds that gave up with this arrangement, from what the opening left, with these logs and these tallies. The
-- file of this name holds it; or the count of write faults rose, and the file holds a front of it, or is as before or empty.
pub record HoldsReport (b : Build) (old new : Meaning) (name : List ℕ) (arrangement : Arrangement) (kept : List Kept) (logs : List RoundLog) (tallies : List Shut) : Type 0 where
  pub texts : List (List ℕ)
  pub report : List ℕ
  pub hold : HoldsTexts (files_of b) old texts
  pub tells : Asks b.package_name (λ task. IsGivenUpIn task (effort_of b) arrangement kept logs tallies report) texts
  pub left : IsLeftIn name report old new

-- status 10: where the report on the routes is asked for and the desk tells its contents, what the file of the report holds
abbrev pub ReportedRow : Build → Meaning → Meaning → Cause → Type 0
ReportedRow b old new cause =
    (arrangement : Arrangement) (logs : Vec RoundLog) (tallies : Vec Shut) (kept : Vec Kept) (name : List ℕ) → cause ≡ GaveUp arrangement logs tallies kept → b.report ≡ Some name → old.tells ≡ true
    → HoldsReport b old new name arrangement kept.items logs.items tallies.items

-- ---- all of them
-- The end of `build`, where the desk was seen as `old` before and is seen as `new` after.
pub record IsBuildAnswer (b : Build) (old new : Meaning) (end : Done) : Type 0 where
  pub written : WrittenRow b old new end.cause
  pub built : BuiltRow b old end.cause
  pub bad_blif : BlifRow b old end.cause
  pub bad_pcf : PcfRow b old end.cause
  pub bad_chip : ChipRow b old end.cause
  pub bad_net : NetRow b old end.cause
  pub bad_pin : PinRow b old end.cause
  pub overfull : PlaceRow b old end.cause
  pub tried : TriedRow b old end.cause
  pub unreachable : UnreachableRow b old end.cause
  pub gave_up : GaveUpRow b old end.cause
  pub reported : ReportedRow b old new end.cause
  pub bad_bits : BitsRow b old end.cause
  pub read_fault : ReadFaultRow (build_files b) old new end.cause
  pub write_fault : WriteFaultRow (build_files b) old new end.cause
  pub too_long : TooLongRow (build_files b) old new end.cause
