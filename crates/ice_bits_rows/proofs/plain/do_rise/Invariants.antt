use Rattle.std.proofs.Common.{◌≡◌, [], drop, map}
use Rattle.ice_chip.specs.Views.{row_view}
use Rattle.ice_bits_rows.specs.Plain.{do_rise}
use Rattle.ice_bits_rows.proofs.plain.do_rise.Given as goal

abbrev pub invariant-loop-row : goal.invariant-loop-row
invariant-loop-row l = do_rise l.count [] (map row_view l.rows) ≡ do_rise l.count l.low (map row_view (drop l.row-index l.rows))
