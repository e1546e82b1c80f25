-- Of one arrangement: what is built, a sink that can't be reached, and permitted rounds that all end with an overused wire leave each other
-- out.
use Rattle.std.proofs.Common.{List}
use Rattle.ice_base.specs.declared.number.NetNo.{NetNo}
use Rattle.ice_place.specs.declared.arrangement.Arrangement.{Arrangement}
use Rattle.ice_base.specs.declared.number.WireNo.{WireNo}
use Rattle.ice_flow_build.proofs.Excluding.{routed_not_stuck_on, routed_not_given_up_on}
pub use Rattle.ice_flow_build.proofs.Excluding.{given_up_not_stuck_on, stuck_on_one}
use Rattle.ice_flow_build.specs.Laid.{Task}
use Rattle.ice_flow_build_cmd.specs.Made.{IsBuiltOn, IsStuckOn, IsGivenUpOn}
use Rattle.ice_core.specs.declared.log.RoundLog.{RoundLog}
use Rattle.ice_flow_build.specs.declared.answer.Effort.{Effort}
use Rattle.ice_negotiate_defs.specs.declared.kept.Kept.{Kept}
use Rattle.ice_words.specs.Grips.{Shut}

pub built_not_stuck : (task : Task) (effort : Effort) (arrangement : Arrangement) (net : NetNo) (sink : WireNo) → IsBuiltOn task effort arrangement → IsStuckOn task arrangement net sink → ⊥
built_not_stuck task effort arrangement net sink (built, is, on) stuck =
    routed_not_stuck_on task effort arrangement built.kept.items built.routed net sink (built.layout, is.laid, on, is.routed) stuck

pub built_not_given_up : (task : Task) (effort : Effort) (arrangement : Arrangement) (kept : List Kept) (logs : List RoundLog) (tallies : List Shut) → IsBuiltOn task effort arrangement
    → IsGivenUpOn task effort arrangement kept logs tallies → ⊥
built_not_given_up task effort arrangement kept logs tallies (built, is, on) given =
    routed_not_given_up_on task effort arrangement built.kept.items kept built.routed logs tallies (built.layout, is.laid, on, is.routed) given
