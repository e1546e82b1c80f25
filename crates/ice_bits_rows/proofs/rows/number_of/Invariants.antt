use Rattle.std.proofs.Common.{◌≡◌, ◌+◌, drop, map}
use Rattle.ice_chip.specs.Views.{row_view}
use Rattle.ice_bits.specs.Settings.{number_with}
use Rattle.ice_bits_rows.proofs.rows.number_of.Given as goal

abbrev pub invariant-loop-k : goal.invariant-loop-k
invariant-loop-k l = number_with l.values l.other.first.0 (map row_view l.other.rows.items)
    ≡ number_with l.values (l.other.first.0 + l.k) (map row_view (drop l.k l.other.rows.items))
