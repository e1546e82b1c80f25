use Rattle.std.proofs.Common.{arith}
use Rattle.ice_bits.specs.Configuration.{bits_of}
use Rattle.ice_sim.proofs.StoreSteps.{cells_fed, cells_kept}
use Rattle.ice_sim.proofs.chip_flops.add_flops.Goals as goal

pub loop-place-preserved : goal.loop-place-preserved
loop-place-preserved c = (
  cells_fed c.args.configured.now.parts (bits_of c.args.configured.now.configuration) c.args.configured.now.bonded c.args.slots.now _ _ c.loop-place.feeds.items c.add_flop.new.feeds.items c.args.cells.now c.loop-place.place (omega arith) c.loop-place.invariant.0 c.in_ok-add_flop.ensures.feeds,
  cells_kept c.args.configured.now.parts (bits_of c.args.configured.now.configuration) c.args.configured.now.bonded c.args.slots.now _ _ c.loop-place.keepers.items c.add_flop.new.keepers.items c.loop-place.feeds.items c.add_flop.new.feeds.items c.args.cells.now c.loop-place.place c.loop-place.place
      (omega arith) c.loop-place.invariant.1 c.in_ok-add_flop.ensures.feeds c.in_ok-add_flop.ensures.keepers,
)
