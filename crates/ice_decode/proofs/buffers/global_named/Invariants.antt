use Rattle.std.proofs.Common.{◌≡◌, ◌-◌}
use Rattle.ice_decode.specs.FirstFaults.{first_of}
use Rattle.ice_decode.specs.GlobalNames.{if_named, global_named}
use Rattle.ice_decode.proofs.buffers.global_named.Given as goal

abbrev pub invariant-loop-global : goal.invariant-loop-global
invariant-loop-global l = global_named l.chip l.tile l.wire.0 ≡ first_of (if_named l.chip l.tile l.wire.0) l.global (8 - l.global)
