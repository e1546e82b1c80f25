use Rattle.std.proofs.Common.{◌≡◌, map}
use Rattle.std.specs.List.{range_with_len}
use Rattle.ice_emit_settings.specs.Buffers.{has_global_name}
use Rattle.ice_emit_settings.proofs.globals.global_wires.Given as goal

abbrev pub invariant-loop-wire : goal.invariant-loop-wire
invariant-loop-wire l = l.known.items ≡ map (has_global_name l.chip) (range_with_len 0 l.wire)
