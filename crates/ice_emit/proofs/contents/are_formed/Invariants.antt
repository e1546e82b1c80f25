use Rattle.std.proofs.Common.{take}
use Rattle.std.specs.Prelude.{All}
use Rattle.ice_emit_defs.specs.Rams.{IsFormedRam}
use Rattle.ice_emit.proofs.contents.are_formed.Given as goal

abbrev pub invariant-loop-ram : goal.invariant-loop-ram
invariant-loop-ram l = All IsFormedRam (take l.ram-index l.rams)
