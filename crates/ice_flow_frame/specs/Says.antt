-- What an answer says, beside the text that a command makes.
use Rattle.ice_desk.specs.Desk.{Meaning}
use Rattle.ice_desk.specs.Said.{IsSilent}
use Rattle.ice_flow_frame.specs.declared.cause.Cause.{Cause}
use Rattle.ice_flow_frame.specs.declared.cause.Cause.TheVariants.{Good}

-- the work is done
abbrev pub IsWorkDone : Cause → Type 0
IsWorkDone (Good arrangement tallies kept) = Unit {0}
IsWorkDone cause = ⊥

-- where the work is done, nothing was said
abbrev pub SilentWhereDone : Meaning → Meaning → Cause → Type 0
SilentWhereDone old new (Good arrangement tallies kept) = IsSilent old new
SilentWhereDone old new cause = Unit {0}
