use Rattle.std.proofs.Common.{refl, arith}
use Rattle.ice_emit.proofs.RamContents.{words_more, words_end}
use Rattle.ice_emit.proofs.contents.add_all_words.Goals as goal

pub loop-k-preserved : goal.loop-k-preserved
loop-k-preserved c =
    words_more c.args.sites.now c.args.rams.now c.loop-k.k _ _ c.index-rams-k.result c.loop-k.bits c.add_words.new.bits _ (omega arith) (omega arith) refl c.index-rams-k.is c.in_ok-add_words.ensures c.loop-k.invariant

pub returns : goal.returns
returns c = words_end c.args.sites.now c.args.rams.now c.loop-k.k c.loop-k.bits _ (omega arith) c.loop-k.invariant
