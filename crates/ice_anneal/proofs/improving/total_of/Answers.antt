use Rattle.std.proofs.Common.{ap, ◌∙◌}
use Rattle.ice_anneal_board.specs.Length.{wire_length}
use Rattle.ice_anneal_board.proofs.Boards.{total_is}
use Rattle.ice_anneal.proofs.improving.total_of.Goals as goal

pub returns : goal.returns
returns c = total_is c.args.wiring.now c.in_ok-board.board c.in_ok-board.ensures.board ∙ ap (wire_length c.args.wiring.now.nets.items) (c.in_ok-board.ensures.place ∙ c.in_ok-from_slice.ensures.items)
