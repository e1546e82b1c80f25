use Rattle.std.proofs.Common.{◌++◌, ap, sym, ◌∙◌, append-nil}
use Rattle.std.proofs.lemmas.List.{at_drop_all}
use Rattle.ice_decode.specs.Tiles.{logic_among}
use Rattle.ice_decode.proofs.TileLists.{logic_same}
use Rattle.ice_decode.proofs.tiles.logic_tiles.Goals as goal

pub returns : goal.returns
returns c =
    sym (append-nil c.loop-tile.tiles.items)
    ∙ sym (c.loop-tile.invariant ∙ ap (λ rest. c.loop-tile.tiles.items ++ rest) (at_drop_all logic_among c.tiles-tile-items.result.now c.loop-tile.tile-index c.loop-tile-test.false))
    ∙ ap logic_among c.tiles-tile-items.ensures
    ∙ logic_same c.args.chip.now
