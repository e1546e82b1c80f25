use Rattle.std.proofs.Common.{[], ◌∷◌, ◌++◌, ap, sym, ◌∙◌, arith}
use Rattle.std.proofs.lemmas.List.FromFn.{map-range_with_len_more}
use Rattle.std.proofs.lemmas.List.{take_all}
use Rattle.ice_decode.specs.Reads.{wire_point}
use Rattle.ice_decode.specs.Points.{points_by}
use Rattle.ice_decode.proofs.numbering.points_by.Goals as goal

pub loop-wire-preserved : goal.loop-wire-preserved
loop-wire-preserved c =
    c.in_ok-push.ensures.items
    ∙ ap (λ points. points ++ wire_point c.loop-wire.wire ∷ []) c.loop-wire.invariant
    ∙ sym (map-range_with_len_more wire_point 0 c.loop-wire.wire c.loop-wire.wire (omega arith))

pub returns : goal.returns
returns c = c.loop-tile.invariant ∙ ap (points_by c.args.wires) (take_all c.loop-tile.tile-index c.args.tiles.now c.loop-tile-test.false)
