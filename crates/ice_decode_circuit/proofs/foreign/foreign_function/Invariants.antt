use Rattle.std.proofs.Common.{◌≡◌, drop}
use Rattle.ice_bits.specs.Configuration.{bits_of}
use Rattle.ice_decode.specs.FirstFaults.{foreign_function}
use Rattle.ice_decode_circuit.specs.ForeignTiles.{foreign_among}
use Rattle.ice_decode_circuit.proofs.foreign.foreign_function.Given as goal

abbrev pub invariant-loop-tile : goal.invariant-loop-tile
invariant-loop-tile l = foreign_function l.chip (bits_of l.bits) ≡ foreign_among l.chip (bits_of l.bits) (drop l.tile-index l.tile-items)
