use Rattle.std.proofs.Common.{◌++◌, ap, sym, ◌∙◌, append-nil}
use Rattle.std.proofs.lemmas.List.{at_drop_all}
use Rattle.ice_sim.proofs.StoreLists.{io_among, io_same}
use Rattle.ice_sim.proofs.stores.io_tiles.Goals as goal

pub returns : goal.returns
returns c =
    sym (append-nil c.loop-tile.tiles.items)
    ∙ sym (c.loop-tile.invariant ∙ ap (λ rest. c.loop-tile.tiles.items ++ rest) (at_drop_all io_among c.tiles-tile-items.result.now c.loop-tile.tile-index c.loop-tile-test.false))
    ∙ ap io_among c.tiles-tile-items.ensures
    ∙ io_same c.args.chip.now
