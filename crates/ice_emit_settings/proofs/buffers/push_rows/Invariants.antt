use Rattle.std.proofs.Common.{◌≡◌, ◌++◌, take}
use Rattle.std.specs.Prelude.{flat_map}
use Rattle.ice_emit_defs.specs.Functions.{buffer_settings}
use Rattle.ice_emit_settings.specs.Views.{views, switches}
use Rattle.ice_emit_settings.proofs.buffers.push_rows.Given as goal

abbrev pub invariant-loop-k : goal.invariant-loop-k
invariant-loop-k l = views l.made.items ≡ views l.initial.made.items ++ flat_map (buffer_settings l.chip) (switches l.chip (take l.k l.rows))
