use Rattle.std.proofs.Common.{arith}
use Rattle.ice_negotiate_round.proofs.RaisingAll.{next_is}
use Rattle.ice_negotiate_round.proofs.raising.raise.Goals as goal

pub returns : goal.returns
returns g c =
    let before = c.loop-w.invariant in
    let over = c.loop-w-test.false in
    next_is c.args.history.now c.args.counts.now.closed c.loop-w.history c.requires.wires.1 before.long (λ v lt. before.each v (omega (arith, lt, over, before.long)))
