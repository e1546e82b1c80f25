-- What an answer tells, by its cause alone: a fault of the netlist, or how it went with an arrangement.
use Rattle.std.specs.Prelude.{◌≡◌}
use Rattle.std.specs.Global.{Vec}
use Rattle.ice_base.specs.declared.number.NetNo.{NetNo}
use Rattle.ice_base.specs.declared.number.WireNo.{WireNo}
use Rattle.ice_check.specs.declared.fault.NetFault.{NetFault}
use Rattle.ice_core.specs.declared.log.RoundLog.{RoundLog}
use Rattle.ice_negotiate_defs.specs.declared.kept.Kept.{Kept}
use Rattle.ice_place.specs.declared.arrangement.Arrangement.{Arrangement}
use Rattle.ice_words.specs.Grips.{Shut}
use Rattle.ice_flow_frame.specs.declared.cause.Cause.{Cause}
use Rattle.ice_flow_frame.specs.declared.cause.Cause.TheVariants.{Good, BadNet, Unreachable, GaveUp}

abbrev pub TellsNetFault : Cause → Type 0
TellsNetFault cause = (fault : NetFault) × (cause ≡ BadNet fault)

-- the answer tells this arrangement
abbrev pub IsAbout : Arrangement → Cause → Type 0
IsAbout arrangement (Good told tallies kept) = told ≡ arrangement
IsAbout arrangement (Unreachable told net sink) = told ≡ arrangement
IsAbout arrangement (GaveUp told logs tallies kept) = told ≡ arrangement
IsAbout arrangement cause = ⊥

-- with some arrangement the work is done
abbrev pub TellsGood : Cause → Type 0
TellsGood cause = (arrangement : Arrangement) × (tallies : Vec Shut) × (kept : Vec Kept) × (cause ≡ Good arrangement tallies kept)

-- with some arrangement this sink can't be reached
abbrev pub TellsUnreachable : NetNo → WireNo → Cause → Type 0
TellsUnreachable net sink cause = (arrangement : Arrangement) × (cause ≡ Unreachable arrangement net sink)

-- with some arrangement the rounds gave up
abbrev pub TellsGivenUp : Cause → Type 0
TellsGivenUp cause = (arrangement : Arrangement) × (logs : Vec RoundLog) × (tallies : Vec Shut) × (kept : Vec Kept) × (cause ≡ GaveUp arrangement logs tallies kept)
