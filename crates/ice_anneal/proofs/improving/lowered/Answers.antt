use Rattle.std.proofs.Common.{ap, ◌∙◌, arith}
use Rattle.ice_anneal_board.specs.Length.{wire_length}
use Rattle.ice_anneal_board.proofs.Boards.{total_is}
use Rattle.ice_anneal.proofs.improving.lowered.Goals as goal

pub returns-clause-falls : goal.returns-clause-falls
returns-clause-falls c =
    let t0 = total_is c.args.wiring.now c.in_ok-board.board c.in_ok-board.ensures.board in
    let t1 = total_is c.args.wiring.now c.descend.new.self c.descend.ensures.board in
    let e = ap (wire_length c.args.wiring.now.nets.items) (c.in_ok-board.ensures.place ∙ c.in_ok-from_slice.ensures.items) in
    let le = c.descend.ensures.falls in
    omega arith
