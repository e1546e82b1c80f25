use Rattle.std.proofs.Common.{◌≡◌, ◌++◌}
use Rattle.std.specs.List.{flat_map, range_with_len}
use Rattle.ice_emit_settings.specs.Ports.{digit_settings}
use Rattle.ice_emit_settings.specs.Views.{views}
use Rattle.ice_emit_settings.proofs.ports.push_type.Given as goal

abbrev pub invariant-loop-place : goal.invariant-loop-place
invariant-loop-place l = views l.made.items ≡ views l.initial.made.items ++ flat_map (digit_settings l.pad l.pin_type) (range_with_len 0 l.place)
