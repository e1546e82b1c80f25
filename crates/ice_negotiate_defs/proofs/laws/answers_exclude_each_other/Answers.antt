use Rattle.ice_negotiate_defs.proofs.Repeating.{reached_all, routed_free}
use Rattle.ice_negotiate_defs.proofs.laws.answers_exclude_each_other.Goals as goal

pub returns-clause-routed_are_reached : goal.returns-clause-routed_are_reached
returns-clause-routed_are_reached c graph nets opening permitted routed net sink h s = reached_all graph nets net sink h.reached s

pub returns-clause-routed_end_free : goal.returns-clause-routed_end_free
returns-clause-routed_end_free c graph nets opening permitted routed logs tallies h k = routed_free graph nets opening permitted routed logs tallies h k

pub returns-clause-overused_are_reached : goal.returns-clause-overused_are_reached
returns-clause-overused_are_reached c graph nets opening permitted logs tallies net sink k s = reached_all graph nets net sink k.reached s
