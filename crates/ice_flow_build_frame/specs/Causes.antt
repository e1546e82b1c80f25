-- The cause of each fault of building.
use Rattle.std.specs.Prelude.{◌≡◌}
use Rattle.ice_flow_build.specs.Laid.{arrangement_in}
use Rattle.ice_flow_build.specs.declared.answer.BuildFault.{BuildFault}
use Rattle.ice_flow_build.specs.declared.answer.BuildFault.TheVariants as build
use Rattle.ice_flow_frame.specs.Refusals.{IsPinRefusal, IsPlaceRefusal, IsBitsRefusal}
use Rattle.ice_flow_frame.specs.declared.cause.Cause.{Cause}
use Rattle.ice_flow_frame.specs.declared.cause.Cause.TheVariants.{Unreachable, GaveUp, NoMemory}

-- the fault, with the arrangement of which it is told; want of memory is one cause
abbrev pub IsCauseOf : BuildFault → Cause → Type 0
IsCauseOf (build.Pins fault) cause = IsPinRefusal fault cause
IsCauseOf (build.Places fault) cause = IsPlaceRefusal fault cause
IsCauseOf (build.Unreachable layout net sink) cause = cause ≡ Unreachable (arrangement_in layout) net sink
IsCauseOf (build.GaveUp layout nets kept logs tallies) cause = cause ≡ GaveUp (arrangement_in layout) logs tallies kept
IsCauseOf (build.Bits fault) cause = IsBitsRefusal fault cause
IsCauseOf build.NoMemory cause = cause ≡ NoMemory
