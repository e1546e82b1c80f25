use Rattle.std.proofs.Common.{◌≡◌, drop}
use Rattle.ice_emit_bits.specs.Adds.{AreLeft}
use Rattle.ice_emit_bits.specs.Lists.{all_rows}
use Rattle.ice_emit_bits.proofs.settings.turn_all_on.Given as goal

abbrev pub invariant-loop-row : goal.invariant-loop-row
invariant-loop-row l = AreLeft l.chip l.fn.bits l.bits (all_rows l.chip l.rows) (all_rows l.chip (drop l.row-index l.rows))
