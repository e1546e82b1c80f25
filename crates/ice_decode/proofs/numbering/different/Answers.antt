use Rattle.std.proofs.Common.{sym, ◌∙◌}
use Rattle.std.proofs.lemmas.List.{at_drop_all}
use Rattle.ice_decode.specs.Different.{different}
use Rattle.ice_decode.proofs.numbering.different.Goals as goal

pub returns : goal.returns
returns c = sym (c.loop-tile.invariant ∙ at_drop_all (different c.loop-tile.set.keys) c.args.tiles.now c.loop-tile.tile-index c.loop-tile-test.false)
