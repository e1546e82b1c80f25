use Rattle.std.proofs.Common.{sym, ◌∙◌}
use Rattle.std.proofs.lemmas.List.{at_drop_all}
use Rattle.ice_bits.specs.Configuration.{bits_of}
use Rattle.ice_decode_circuit.specs.ForeignTiles.{foreign_among}
use Rattle.ice_decode_circuit.proofs.foreign.foreign_function.Goals as goal

pub returns : goal.returns
returns c =
    sym (c.loop-tile.invariant
    ∙ at_drop_all (foreign_among c.args.chip.now (bits_of c.args.bits.now)) c.tiles-tile-items.result.now c.loop-tile.tile-index c.loop-tile-test.false)
