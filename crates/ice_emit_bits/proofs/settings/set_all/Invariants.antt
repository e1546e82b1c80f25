use Rattle.std.proofs.Common.{◌≡◌, drop, map}
use Rattle.ice_emit_rows_laws.specs.Settings.{function_bits}
use Rattle.ice_emit_bits.specs.Adds.{AreLeft}
use Rattle.ice_emit_bits.specs.Lists.{setting_view}
use Rattle.ice_emit_bits.proofs.settings.set_all.Given as goal

abbrev pub invariant-loop-setting : goal.invariant-loop-setting
invariant-loop-setting l = AreLeft l.chip l.fn.bits l.bits (function_bits l.chip (map setting_view l.settings)) (function_bits l.chip (map setting_view (drop l.setting-index l.settings)))
