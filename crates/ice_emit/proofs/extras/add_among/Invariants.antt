use Rattle.std.proofs.Common.{◌≡◌, drop}
use Rattle.ice_emit_defs.specs.Written.{extras_among}
use Rattle.ice_emit.specs.Views.{with_extras}
use Rattle.ice_emit.proofs.extras.add_among.Given as goal

abbrev pub invariant-loop-number : goal.invariant-loop-number
invariant-loop-number l = with_extras (extras_among l.chip l.globals l.direct (drop l.number-index l.numbers)) l.bits ≡ with_extras (extras_among l.chip l.globals l.direct l.numbers) l.initial.bits
