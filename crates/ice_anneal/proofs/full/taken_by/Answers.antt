use Rattle.std.proofs.Common.{ap, ◌∙◌, arith}
use Rattle.std.proofs.lemmas.List.{take_all}
use Rattle.ice_anneal.specs.Full.{has_tile}
use Rattle.ice_anneal.proofs.Tables.{taken_more}
use Rattle.ice_anneal.proofs.full.taken_by.Goals as goal

pub loop-tile-preserved : goal.loop-tile-preserved
loop-tile-preserved c t = taken_more c.args.at.now c.loop-tile.tile-index _ t _ _ c.loop-tile-test.true (c.in_ok-insert.ensures.updates.0 t) (c.loop-tile.invariant t)

pub returns : goal.returns
returns c t = c.loop-tile.invariant t ∙ ap (λ at. has_tile at t) (take_all c.loop-tile.tile-index c.args.at.now (let n = c.loop-tile-test.false in omega arith))
