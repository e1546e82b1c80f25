use Rattle.std.proofs.Common.{arith, ◌∙◌, sym, subst}
use Rattle.ice_cells.specs.Pairs.{takes}
use Rattle.ice_pack_share.specs.Turns.{AreCounted}
use Rattle.ice_pack_share.proofs.Taking.{none_counted, few_counted, luts_more, counted_more}
use Rattle.ice_pack_share.proofs.pairing.take_luts.Goals as goal

pub loop-c-init : goal.loop-c-init
loop-c-init c = (c.requires.luts, subst (AreCounted takes c.args.roles.now 0) (sym c.requires.counts) (none_counted takes c.args.roles.now))

pub take_lut-requires : goal.take_lut-requires
take_lut-requires c = λ p. let few = few_counted takes c.args.roles.now c.loop-c.c c.loop-c.counts.entries c.loop-c.invariant.1 p in omega arith

pub loop-c-preserved : goal.loop-c-preserved
loop-c-preserved c = (
  c.in_ok-push.ensures.items
      ∙ luts_more c.args.roles.now c.loop-c.c _ c.args.by_turn.now.entries c.loop-c.counts.entries c.loop-c.luts.items c.in_ok-lut.lut (omega arith) c.requires.by_turn c.loop-c.invariant.1 c.loop-c.invariant.0 c.in_ok-lut.ensures.lut,
  counted_more takes c.args.roles.now c.loop-c.c _ c.loop-c.counts.entries _ (omega arith) c.loop-c.invariant.1 c.in_ok-lut.ensures.counts,
)
