use Rattle.std.proofs.Common.{◌≡◌, sym, ap, ◌∙◌, ◌<◌, ◌≤◌, min, length, true, false, Option, arith}
use Rattle.std.specs.Prelude.{is_some, option_map}
use Rattle.ice_place_length.proofs.Summing.{tile_more, tile_here, tile_end}
use Rattle.ice_place_length.proofs.nets.cell_tile.Goals as goal

pub loop-k-preserved : goal.loop-k-preserved
loop-k-preserved c =
    tile_more c.args.clusters.now c.args.tiles.now c.loop-k.k c.index-clusters-k.result c.args.cell (omega arith) c.index-clusters-k.is
    (sym (ap is_some c.slot_in.ensures) ∙ sym c.is_some.ensures ∙ c.if-is_some.false) ∙ c.loop-k.invariant

pub returns-then-is_some : goal.returns-then-is_some
returns-then-is_some c =
    tile_here c.args.clusters.now c.args.tiles.now c.loop-k.k c.index-clusters-k.result _ c.args.cell (omega arith) c.index-clusters-k.is
    (sym (ap is_some c.slot_in.ensures) ∙ sym c.is_some.ensures ∙ c.if-is_some.true) ∙ c.loop-k.invariant

pub returns : goal.returns
returns c = tile_end c.args.clusters.now c.args.tiles.now c.loop-k.k c.args.cell (omega arith) ∙ c.loop-k.invariant
