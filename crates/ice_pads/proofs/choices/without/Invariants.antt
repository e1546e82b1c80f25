use Rattle.std.proofs.Common.{◌≡◌, ◌++◌, ◌==◌, drop, filter, not}
use Rattle.ice_pads.proofs.choices.without.Given as goal

abbrev pub invariant-loop-other : goal.invariant-loop-other
invariant-loop-other l = l.rest.items ++ filter (λ m. not (m == l.number)) (drop l.other-index l.free) ≡ filter (λ m. not (m == l.number)) l.free
