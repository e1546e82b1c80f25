use Rattle.std.proofs.Common.{◌≡◌, drop}
use Rattle.ice_emit_defs.specs.Written.{takes_direct}
use Rattle.ice_emit.proofs.extras.takes_direct.Given as goal

abbrev pub invariant-loop-k : goal.invariant-loop-k
invariant-loop-k l = takes_direct (drop l.k l.globals) (drop l.k l.direct) l.number ≡ takes_direct l.globals l.direct l.number
