use Rattle.std.proofs.Common.{inr, sym, ap, ◌∙◌, arith}
use Rattle.std.specs.List.{swap}
use Rattle.ice_anneal_board.specs.Length.{wire_length}
use Rattle.ice_anneal_board.proofs.Boards.{total_is}
use Rattle.ice_anneal_board.proofs.Sweeps.{swap_swap}
use Rattle.ice_anneal_board.proofs.board.Board.attempt.Goals as goal

pub returns-then-self-before-clause-attempted : goal.returns-then-self-before-clause-attempted
returns-then-self-before-clause-attempted c =
    let nets = c.args.wiring.now.nets.items in
    let mid = c.exchange.new.self in
    let new = c.exchange-then-self-before.new.self in
    let t0 = total_is c.args.wiring.now c.args.self.now c.requires.board in
    let t1 = total_is c.args.wiring.now mid c.exchange.ensures.board in
    let t2 = total_is c.args.wiring.now new c.exchange-then-self-before.ensures.board in
    let back = c.exchange-then-self-before.ensures.place ∙ (ap (λ q. swap q c.args.c c.args.d) c.exchange.ensures.place ∙ swap_swap c.args.self.now.place.items c.args.c c.args.d c.requires.c c.requires.d) in
    let e = ap (wire_length nets) c.exchange.ensures.place in
    let le = c.if-self-before.true in
    inr (back, t2 ∙ (ap (wire_length nets) back ∙ sym t0), omega arith)
