use Rattle.std.proofs.Common.{map, ap, rules, ◌∙◌, arith}
use Rattle.std.proofs.lemmas.List.{take_all}
use Rattle.ice_bits.specs.TileForms.{blank_at}
use Rattle.ice_bits.proofs.TileWrites.{blank_more}
use Rattle.ice_bits.proofs.grids.blank_tiles.Goals as goal

pub loop-tile-preserved : goal.loop-tile-preserved
loop-tile-preserved c =
    c.in_ok-push.ensures.items ∙ blank_more c.args.all.now c.loop-tile.tile-index _ c.loop-tile.tiles.items c.in_ok-rows.rows (omega arith) c.loop-tile.invariant (search rules)

pub returns : goal.returns
returns c = c.loop-tile.invariant ∙ ap (map blank_at) (take_all c.loop-tile.tile-index c.args.all.now (search rules))
