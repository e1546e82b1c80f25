use Rattle.std.proofs.Common.{arith}
use Rattle.ice_core.proofs.Running.{releases_high, releases_low}
use Rattle.ice_core.proofs.progress.Progress.release.Goals as goal

pub returns-then-count-ge2-clause-worker : goal.returns-then-count-ge2-clause-worker
returns-then-count-ge2-clause-worker c = λ olds news. (let p = c.args.self.now in releases_high olds news p.claimed.items p.task p.released p.held p.ended p.up p.down c.args.count (omega (arith, c.if-count-ge2.true)))

pub returns-else-count-ge2-clause-worker : goal.returns-else-count-ge2-clause-worker
returns-else-count-ge2-clause-worker c = λ olds news. (let p = c.args.self.now in releases_low olds news p.claimed.items p.task p.released p.held p.ended p.up p.down c.args.count (omega (arith, c.if-count-ge2.false)))
