use Rattle.std.proofs.Common.{◌≡◌, drop}
use Rattle.std.specs.List.{list_any}
use Rattle.ice_chip.specs.Names.{is_global_name}
use Rattle.ice_emit_settings.specs.Buffers.{has_global_name}
use Rattle.ice_emit_settings.proofs.globals.has_global_name.Given as goal

abbrev pub invariant-loop-placed : goal.invariant-loop-placed
invariant-loop-placed l = has_global_name l.chip l.fn.wire.0 ≡ list_any (λ n. is_global_name n.name) (drop l.placed-index l.placed-items)
