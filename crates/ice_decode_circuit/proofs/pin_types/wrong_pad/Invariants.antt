use Rattle.std.proofs.Common.{◌≡◌, drop}
use Rattle.ice_bits.specs.Configuration.{bits_of}
use Rattle.ice_decode.specs.FirstFaults.{wrong_pad}
use Rattle.ice_decode_circuit.specs.PadTiles.{wrong_among}
use Rattle.ice_decode_circuit.proofs.pin_types.wrong_pad.Given as goal

abbrev pub invariant-loop-tile : goal.invariant-loop-tile
invariant-loop-tile l = wrong_pad l.chip (bits_of l.bits) ≡ wrong_among l.chip (bits_of l.bits) (drop l.tile-index l.tile-items)
