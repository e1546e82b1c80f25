use Rattle.std.proofs.Common.{◌≡◌, drop, map}
use Rattle.ice_chip.specs.Views.{row_view}
use Rattle.ice_bits_rows.specs.Plain.{do_differ}
use Rattle.ice_bits_rows.proofs.plain.do_differ.Given as goal

abbrev pub invariant-loop-k : goal.invariant-loop-k
invariant-loop-k l = do_differ l.count (map row_view l.rows) ≡ do_differ l.count (map row_view (drop l.k l.rows))
