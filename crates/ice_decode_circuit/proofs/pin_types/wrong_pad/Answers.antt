use Rattle.std.proofs.Common.{sym, ap, ◌∙◌}
use Rattle.std.proofs.lemmas.List.{at_drop_all}
use Rattle.ice_bits.specs.Configuration.{bits_of}
use Rattle.ice_decode_circuit.specs.PadTiles.{wrong_among}
use Rattle.ice_decode_circuit.proofs.TileLists.{wrong_same, io_passed, other_passed}
use Rattle.ice_decode_circuit.proofs.pin_types.wrong_pad.Goals.{in-Io+else-is_some, in_default}
use Rattle.ice_decode_circuit.proofs.pin_types.wrong_pad.Goals as goal

pub loop-tile-init : goal.loop-tile-init
loop-tile-init c = sym (wrong_same c.args.chip.now (bits_of c.args.bits.now)) ∙ ap (wrong_among c.args.chip.now (bits_of c.args.bits.now)) (sym c.tiles-tile-items.ensures)

pub loop-tile-preserved : goal.loop-tile-preserved
loop-tile-preserved c =
    c.loop-tile.invariant
    ∙ elim c.match-tile.branch [
      | in-Io+else-is_some w ↦ io_passed c.args.chip.now (bits_of c.args.bits.now) c.tiles-tile-items.result.now c.loop-tile.tile-index _ w.wrong_in-found.result c.loop-tile-test.true
          w.in-Io.is w.wrong_in-found.ensures (sym w.is_some.ensures ∙ w.if-is_some.false)
      | in_default w ↦ other_passed c.args.chip.now (bits_of c.args.bits.now) c.tiles-tile-items.result.now c.loop-tile.tile-index _ c.loop-tile-test.true w.in_default.not-Io
    ]

pub returns : goal.returns
returns c = sym (c.loop-tile.invariant ∙ at_drop_all (wrong_among c.args.chip.now (bits_of c.args.bits.now)) c.tiles-tile-items.result.now c.loop-tile.tile-index c.loop-tile-test.false)
