use Rattle.ice_pack_share.specs.Along.{AreFound}
use Rattle.ice_pack_share.proofs.tracing.origins.Given as goal

abbrev pub invariant-loop-s : goal.invariant-loop-s
invariant-loop-s l = AreFound l.sound l.order l.s-index l.found.items
