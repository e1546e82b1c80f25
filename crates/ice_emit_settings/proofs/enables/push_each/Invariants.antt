use Rattle.std.proofs.Common.{◌≡◌, ◌++◌}
use Rattle.std.specs.Prelude.{flat_map}
use Rattle.ice_emit_settings.specs.Enables.{disabled_by}
use Rattle.ice_emit_settings.specs.Views.{views}
use Rattle.ice_emit_settings.proofs.enables.push_each.Given as goal

abbrev pub invariant-loop-enable : goal.invariant-loop-enable
invariant-loop-enable l = views l.made.items ++ flat_map (disabled_by l.fn.needed.keys) l.enable-iterator ≡ views l.fn.made.items ++ flat_map (disabled_by l.fn.needed.keys) l.fn.enables.entries
