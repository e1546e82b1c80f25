use Rattle.std.proofs.Common.{◌<◌, IfSome, subst, arith}
use Rattle.ice_path.specs.Aims.{bound_in}
use Rattle.ice_path.proofs.Queueing.{waits_by}
use Rattle.ice_path.proofs.queue.next_open.Goals as goal

pub next_waiting-requires-clause-within : goal.next_waiting-requires-clause-within
next_waiting-requires-clause-within c = λ s w waits. (let lt = waits_by (bound_in c.args.graph.now c.args.aim.now) c.args.settled.now c.args.labels.now c.args.queue.now c.requires.waits s w waits in omega (arith, lt, c.requires.lengths))

pub returns-clause-least : goal.returns-clause-least
returns-clause-least c = c.next_waiting.ensures.least (bound_in c.args.graph.now c.args.aim.now) c.args.labels.now c.requires.lengths c.requires.waits

pub returns-clause-waits : goal.returns-clause-waits
returns-clause-waits c = c.next_waiting.ensures.waits (bound_in c.args.graph.now c.args.aim.now) c.args.labels.now c.requires.lengths c.requires.waits

pub returns-clause-within : goal.returns-clause-within
returns-clause-within c = subst (λ n. IfSome c.next_waiting.result (λ r. r.0 < n)) c.requires.lengths c.next_waiting.ensures.within
