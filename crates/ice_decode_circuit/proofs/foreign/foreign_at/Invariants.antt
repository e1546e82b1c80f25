use Rattle.std.proofs.Common.{◌≡◌, drop, map}
use Rattle.ice_chip.specs.Views.{function_view}
use Rattle.ice_bits.specs.Configuration.{bits_of}
use Rattle.ice_decode_circuit.specs.ForeignTiles.{foreign_at}
use Rattle.ice_decode_circuit.proofs.foreign.foreign_at.Given as goal

abbrev pub invariant-loop-function : goal.invariant-loop-function
invariant-loop-function l =
    foreign_at l.chip (map function_view l.functions) (bits_of l.bits) l.tile ≡ foreign_at l.chip (map function_view (drop l.function-index l.functions)) (bits_of l.bits) l.tile
