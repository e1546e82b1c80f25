use Rattle.std.proofs.Common.{◌∙◌, arith, rules}
use Rattle.std.proofs.lemmas.List.{take_all}
use Rattle.ice_bits.proofs.TileWrites.{copied_more}
use Rattle.ice_bits.proofs.grids.copies_of.Goals as goal

pub loop-held-preserved : goal.loop-held-preserved
loop-held-preserved c =
    c.in_ok-push.ensures.items
    ∙ copied_more c.args.all.now c.loop-held.held-index c.held-item.result c.loop-held.tiles.items c.in_ok-rows.rows (omega arith) c.held-item.is c.loop-held.invariant c.in_ok-rows.ensures

pub returns : goal.returns
returns c = c.loop-held.invariant ∙ take_all c.loop-held.held-index c.args.all.now (search rules)
