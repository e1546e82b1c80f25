use Rattle.ice_core.specs.Routes.{lists_of}
use Rattle.ice_claim_opening.proofs.Closing.{of_board}
use Rattle.ice_claim_opening.proofs.workers.notes_by.Goals as goal

pub returns : goal.returns
returns g c =
    of_board c.in_ok-table.table c.args.wires c.args.workers (lists_of c.args.lists.now) c.work_by.new.main.view c.close-takes.result c.work_by.new.notes.items c.in_ok-table.ensures.board c.requires.lists c.work_by.ensures.of.lists c.close-takes.ensures.closing
    c.in_ok-work_by.ensures.ended c.in_ok-work_by.ensures.gathered.of_all c.in_ok-work_by.ensures.turn
