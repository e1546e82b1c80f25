use Rattle.std.proofs.Common.{◌∙◌, ap, map, arith}
use Rattle.std.proofs.lemmas.List.{take_all}
use Rattle.ice_cells.specs.Uses.{taker_of}
use Rattle.ice_base.proofs.Pushed.{mapped_push}
use Rattle.ice_pack_share.proofs.known.takers_by.Goals as goal

pub loop-read-preserved : goal.loop-read-preserved
loop-read-preserved c =
    mapped_push taker_of c.args.uses.now c.loop-read.read-index _ _ _ _ (omega arith) c.loop-read.invariant c.in_ok-push.ensures.items c.taker_of.ensures

pub returns : goal.returns
returns c = c.loop-read.invariant ∙ ap (map taker_of) (take_all c.loop-read.read-index c.args.uses.now (omega arith))
