use Rattle.std.proofs.Common.{◌≡◌, ◌+◌, drop, map}
use Rattle.ice_chip.specs.Views.{row_view}
use Rattle.ice_bits.specs.Configuration.{bit_in}
use Rattle.ice_bits.specs.Settings.{number_with}
use Rattle.ice_decode_circuit.proofs.rows.place_with.Given as goal

abbrev pub invariant-loop-place : goal.invariant-loop-place
invariant-loop-place l =
    number_with (map (bit_in l.tile) l.group.bits.items) l.group.first.0 (map row_view l.group.rows.items)
    ≡ number_with (map (bit_in l.tile) l.group.bits.items) (l.group.first.0 + l.place) (map row_view (drop l.place l.group.rows.items))
