use Rattle.std.proofs.Common.{◌≡◌, drop, map}
use Rattle.ice_chip.specs.Views.{row_view}
use Rattle.ice_bits_rows.specs.Plain.{has_again}
use Rattle.ice_bits_rows.proofs.plain.has_again.Given as goal

abbrev pub invariant-loop-row : goal.invariant-loop-row
invariant-loop-row l = has_again l.values (map row_view l.rows) ≡ has_again l.values (map row_view (drop l.row-index l.rows))
