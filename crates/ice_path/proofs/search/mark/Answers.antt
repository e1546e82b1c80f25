use Rattle.std.proofs.Common.{◌+◌, subst}
use Rattle.ice_path.specs.Aims.{bound_in}
use Rattle.ice_path.specs.Queue.{Adds}
use Rattle.ice_path.proofs.Queueing.{marked}
use Rattle.ice_path.proofs.search.mark.Goals as goal

pub returns-clause-waits : goal.returns-clause-waits
returns-clause-waits c = marked (bound_in c.args.graph.now c.args.aim.now) c.args.labels.now c.args.wire c.args.cost c.args.queue.now c.push.new.queue c.requires.within c.requires.lower
    (subst (λ b. Adds c.args.queue.now c.push.new.queue (c.args.cost + b) c.args.wire) c.bound.ensures.bound c.push.ensures.adds)
