use Rattle.std.proofs.Common.{◌≡◌, length}
use Rattle.ice_tests_rounds.proofs.events.do_events.Given as goal

abbrev pub invariant-loop-event : goal.invariant-loop-event
invariant-loop-event g l = length l.core.state.counts ≡ length l.initial.core.state.counts
