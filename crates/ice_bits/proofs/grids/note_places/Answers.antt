use Rattle.std.proofs.Common.{◌∙◌, arith}
use Rattle.ice_bits.proofs.TileWrites.{place_more}
use Rattle.ice_bits.proofs.grids.note_places.Goals as goal

pub loop-place-preserved : goal.loop-place-preserved
loop-place-preserved c t =
    c.in_ok-note_place.ensures t
    ∙ place_more t c.args.tiles.now c.loop-place.place c.index-tiles-place.result _ (omega arith) c.index-tiles-place.is (c.loop-place.invariant t)
