use Rattle.std.proofs.Common.{◌+◌, subst}
use Rattle.ice_core.specs.Congestion.{price}
use Rattle.ice_path.specs.Queue.{Adds}
use Rattle.ice_path.proofs.Queueing.{marked}
use Rattle.ice_path.proofs.Touching.{no_label}
use Rattle.ice_path.proofs.look.wait.Goals as goal

pub returns-clause-waits : goal.returns-clause-waits
returns-clause-waits c = marked (price c.args.prices.now) c.args.near.now c.args.wire.0 c.args.cost c.args.queue.now c.push.new.queue c.requires.within (no_label c.args.near.now c.args.wire.0 c.args.cost c.requires.none)
    (subst (λ b. Adds c.args.queue.now c.push.new.queue (c.args.cost + b) c.args.wire.0) c.of.ensures.price c.push.ensures.adds)
