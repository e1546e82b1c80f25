-- Refusals of what stands behind other texts, and want of memory.
use Rattle.std.proofs.Common.{◌≡◌, Result, Ok, Err, IfErr, sym, subst}
use Rattle.ice_flow_frame.specs.declared.cause.Cause.{Cause}
use Rattle.ice_flow_frame.specs.declared.cause.Cause.TheVariants.{Good, Usage, BadBlif, BadPcf, BadChip, BadNet, BadPin, Overfull, Unreachable, GaveUp, ReadFault, WriteFault, NoMemory, BadAsc, BadBits, TooLong, BadLevels, BadDelays}
use Rattle.ice_flow_frame.specs.Commands.{IsRefusal}

-- a refusal behind what was read is one of all that was read, where it stands so
pub refusal_behind : (Before Behind : Cause → Type 0) (cause : Cause) → ((c : Cause) → Behind c → Before c) → IsRefusal Behind cause → IsRefusal Before cause
refusal_behind Before Behind (Good arrangement tallies kept) so is = absurd is
refusal_behind Before Behind Usage so is = (so Usage is.0, is.1)
refusal_behind Before Behind (BadBlif fault) so is = (so (BadBlif fault) is.0, is.1)
refusal_behind Before Behind (BadPcf fault) so is = (so (BadPcf fault) is.0, is.1)
refusal_behind Before Behind (BadChip fault) so is = (so (BadChip fault) is.0, is.1)
refusal_behind Before Behind (BadNet fault) so is = (so (BadNet fault) is.0, is.1)
refusal_behind Before Behind (BadPin fault) so is = (so (BadPin fault) is.0, is.1)
refusal_behind Before Behind (Overfull fault) so is = (so (Overfull fault) is.0, is.1)
refusal_behind Before Behind (Unreachable arrangement net sink) so is = (so (Unreachable arrangement net sink) is.0, is.1)
refusal_behind Before Behind (GaveUp arrangement logs tallies kept) so is = (so (GaveUp arrangement logs tallies kept) is.0, is.1)
refusal_behind Before Behind (ReadFault role) so is = absurd is
refusal_behind Before Behind (WriteFault role put) so is = absurd is
refusal_behind Before Behind NoMemory so is = tt
refusal_behind Before Behind (BadAsc fault) so is = (so (BadAsc fault) is.0, is.1)
refusal_behind Before Behind (BadBits fault) so is = (so (BadBits fault) is.0, is.1)
refusal_behind Before Behind (TooLong role limit) so is = absurd is
refusal_behind Before Behind (BadLevels line) so is = (so (BadLevels line) is.0, is.1)
refusal_behind Before Behind (BadDelays line) so is = (so (BadDelays line) is.0, is.1)

pub refused_behind : {V : Type 0} (Before Behind : Cause → Type 0) (result : Result V Cause) → ((c : Cause) → Behind c → Before c) → IfErr result (λ cause. IsRefusal Behind cause)
    → IfErr result (λ cause. IsRefusal Before cause)
refused_behind Before Behind (Ok value) so is = tt
refused_behind Before Behind (Err cause) so is = refusal_behind Before Behind cause so is

-- want of memory is a refusal, however the texts stand
pub memory_refused : {V : Type 0} (Stands : Cause → Type 0) (result : Result V Cause) → IfErr result (λ cause. cause ≡ NoMemory) → IfErr result (λ cause. IsRefusal Stands cause)
memory_refused Stands (Ok value) is = tt
memory_refused Stands (Err cause) is = subst (IsRefusal Stands) (sym is) tt
