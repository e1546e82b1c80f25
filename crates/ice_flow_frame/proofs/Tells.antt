-- From what an answer tells of an arrangement to the answers that tell one.
use Rattle.std.proofs.Common.{sym, subst}
use Rattle.std.specs.Global.{Vec}
use Rattle.ice_base.specs.declared.number.NetNo.{NetNo}
use Rattle.ice_base.specs.declared.number.WireNo.{WireNo}
use Rattle.ice_core.specs.declared.log.RoundLog.{RoundLog}
use Rattle.ice_negotiate_defs.specs.declared.kept.Kept.{Kept}
use Rattle.ice_place.specs.declared.arrangement.Arrangement.{Arrangement}
use Rattle.ice_words.specs.Grips.{Shut}
use Rattle.ice_flow_frame.specs.Tells.{IsAbout}
use Rattle.ice_flow_frame.specs.declared.cause.Cause.{Cause}
use Rattle.ice_flow_frame.specs.declared.cause.Cause.TheVariants.{Good, Usage, BadBlif, BadPcf, BadChip, BadNet, BadPin, Overfull, Unreachable, GaveUp, ReadFault, WriteFault, NoMemory, BadAsc, BadBits, TooLong, BadLevels, BadDelays}

-- what is true of each answer that tells an arrangement
pub of_about : (P : Cause → Type 0) (arrangement : Arrangement) → ((tallies : Vec Shut) (kept : Vec Kept) → P (Good arrangement tallies kept)) → ((net : NetNo) (sink : WireNo) → P (Unreachable arrangement net sink))
    → ((logs : Vec RoundLog) (tallies : Vec Shut) (kept : Vec Kept) → P (GaveUp arrangement logs tallies kept)) → (cause : Cause) → IsAbout arrangement cause → P cause
of_about P arrangement good stuck gave (Good told tallies kept) is = subst (λ (x : Arrangement). P (Good x tallies kept)) (sym is) (good tallies kept)
of_about P arrangement good stuck gave Usage is = absurd is
of_about P arrangement good stuck gave (BadBlif fault) is = absurd is
of_about P arrangement good stuck gave (BadPcf fault) is = absurd is
of_about P arrangement good stuck gave (BadChip fault) is = absurd is
of_about P arrangement good stuck gave (BadNet fault) is = absurd is
of_about P arrangement good stuck gave (BadPin fault) is = absurd is
of_about P arrangement good stuck gave (Overfull fault) is = absurd is
of_about P arrangement good stuck gave (Unreachable told net sink) is = subst (λ (x : Arrangement). P (Unreachable x net sink)) (sym is) (stuck net sink)
of_about P arrangement good stuck gave (GaveUp told logs tallies kept) is = subst (λ (x : Arrangement). P (GaveUp x logs tallies kept)) (sym is) (gave logs tallies kept)
of_about P arrangement good stuck gave (ReadFault role) is = absurd is
of_about P arrangement good stuck gave (WriteFault role put) is = absurd is
of_about P arrangement good stuck gave NoMemory is = absurd is
of_about P arrangement good stuck gave (BadAsc fault) is = absurd is
of_about P arrangement good stuck gave (BadBits fault) is = absurd is
of_about P arrangement good stuck gave (TooLong role limit) is = absurd is
of_about P arrangement good stuck gave (BadLevels line) is = absurd is
of_about P arrangement good stuck gave (BadDelays line) is = absurd is
