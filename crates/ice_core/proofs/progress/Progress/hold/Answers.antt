use Rattle.std.proofs.Common.{arith}
use Rattle.ice_core.proofs.Running.{holds_high, holds_low}
use Rattle.ice_core.proofs.progress.Progress.hold.Goals as goal

pub returns-then-count-ge1-clause-worker : goal.returns-then-count-ge1-clause-worker
returns-then-count-ge1-clause-worker c = λ olds news. (let p = c.args.self.now in holds_high olds news p.claimed.items p.task p.released p.held p.ended p.up p.down c.args.count (omega (arith, c.if-count-ge1.true)))

pub returns-else-count-ge1-clause-worker : goal.returns-else-count-ge1-clause-worker
returns-else-count-ge1-clause-worker c = λ olds news. (let p = c.args.self.now in holds_low olds news p.claimed.items p.task p.released p.held p.ended p.up p.down c.args.count (omega (arith, c.if-count-ge1.false)))
